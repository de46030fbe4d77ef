use Rattle.std.proofs.Common.{refl, ◌/◌, arith}
use Rattle.wire_instances.proofs.Nodal.{one_more, ended, given, given_node, are_per_node}
use Rattle.wire_instances.proofs.nodes.per_node.Goals as goal

pub loop-process-preserved : goal.loop-process-preserved
loop-process-preserved c =
    one_more (λ p. p / c.args.each) c.loop-process.process _ c.loop-process.of.items c.push.new.self.items c.loop-process.invariant c.in_ok-push.ensures.items refl

pub returns-clause-nodes : goal.returns-clause-nodes
returns-clause-nodes c =
    let n = c.args.processes in
    given (λ p. p / c.args.each) n _ (ended (λ p. p / c.args.each) n c.loop-process.process c.loop-process.of.items c.loop-process.invariant (omega arith))
    (omega (arith, c.requires.few, c.nodes_for.ensures.most)) c.nodes_for.ensures.below

pub returns-clause-filled : goal.returns-clause-filled
returns-clause-filled c =
    let n = c.args.processes in
    are_per_node n c.args.each _ c.requires.some c.nodes_for.ensures.used
    (given_node (λ p. p / c.args.each) n c.loop-process.of.items (ended (λ p. p / c.args.each) n c.loop-process.process c.loop-process.of.items c.loop-process.invariant (omega arith)))
