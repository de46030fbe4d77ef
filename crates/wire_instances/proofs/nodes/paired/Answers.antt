use Rattle.std.proofs.Common.{arith}
use Rattle.wire_instances.specs.Nodes as spec
use Rattle.wire_instances.proofs.Nodal.{one_more, ended, given, given_node, paired_below, are_paired}
use Rattle.wire_instances.proofs.nodes.paired.Goals as goal

pub loop-process-preserved : goal.loop-process-preserved
loop-process-preserved c =
    one_more (λ p. spec.paired_node c.args.a c.args.b p) c.loop-process.process _ c.loop-process.of.items c.push.new.self.items c.loop-process.invariant c.in_ok-push.ensures.items c.paired_node.ensures

pub returns-clause-nodes : goal.returns-clause-nodes
returns-clause-nodes c =
    let n = c.args.processes in
    let f = spec.paired_node c.args.a c.args.b in
    given f n _ (ended f n c.loop-process.process c.loop-process.of.items c.loop-process.invariant (omega arith)) (omega (arith, c.requires.few))
    (λ v h. paired_below c.args.a c.args.b n v c.requires.lower c.requires.there h)

pub returns-clause-paired : goal.returns-clause-paired
returns-clause-paired c =
    let n = c.args.processes in
    let f = spec.paired_node c.args.a c.args.b in
    are_paired c.args.a c.args.b n _ c.requires.lower c.requires.there (omega (arith, c.requires.lower, c.requires.there))
    (given_node f n c.loop-process.of.items (ended f n c.loop-process.process c.loop-process.of.items c.loop-process.invariant (omega arith)))
