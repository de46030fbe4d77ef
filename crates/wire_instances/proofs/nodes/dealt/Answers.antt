use Rattle.std.proofs.Common.{◌%◌, refl, arith}
use Rattle.wire_instances.proofs.Nodal.{one_more, ended, given, given_node, mod_below_both}
use Rattle.wire_instances.proofs.nodes.dealt.Goals as goal

pub loop-process-preserved : goal.loop-process-preserved
loop-process-preserved c =
    one_more (λ p. p % c.args.nodes) c.loop-process.process _ c.loop-process.of.items c.push.new.self.items c.loop-process.invariant c.in_ok-push.ensures.items refl

pub returns-clause-nodes : goal.returns-clause-nodes
returns-clause-nodes c =
    let n = c.args.processes in
    given (λ p. p % c.args.nodes) n _ (ended (λ p. p % c.args.nodes) n c.loop-process.process c.loop-process.of.items c.loop-process.invariant (omega arith))
    (omega (arith, c.min.ensures, c.requires.few)) (λ v h. omega (arith, c.min.ensures, mod_below_both n c.args.nodes v c.requires.some h))

pub returns-clause-dealt : goal.returns-clause-dealt
returns-clause-dealt c =
    let n = c.args.processes in
    record {
      count = c.min.ensures;
      node = given_node (λ p. p % c.args.nodes) n c.loop-process.of.items (ended (λ p. p % c.args.nodes) n c.loop-process.process c.loop-process.of.items c.loop-process.invariant (omega arith));
    }
