use Rattle.std.proofs.Common.{refl, arith}
use Rattle.wire_instances.proofs.Nodal.{one_more, ended, given, given_node}
use Rattle.wire_instances.proofs.nodes.all_alone.Goals as goal

pub loop-process-preserved : goal.loop-process-preserved
loop-process-preserved c =
    one_more (λ p. p) c.loop-process.process _ c.loop-process.of.items c.push.new.self.items c.loop-process.invariant c.in_ok-push.ensures.items refl

pub returns-clause-nodes : goal.returns-clause-nodes
returns-clause-nodes c =
    let processes = c.args.processes in
    given (λ p. p) processes _ (ended (λ p. p) processes c.loop-process.process c.loop-process.of.items c.loop-process.invariant (omega arith)) c.requires (λ v h. h)

pub returns-clause-alone : goal.returns-clause-alone
returns-clause-alone c =
    let processes = c.args.processes in
    record {
      count = refl;
      node = given_node (λ p. p) processes c.loop-process.of.items (ended (λ p. p) processes c.loop-process.process c.loop-process.of.items c.loop-process.invariant (omega arith));
    }
