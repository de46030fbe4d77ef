use Rattle.wire_instances.proofs.Loops.{node_step}
use Rattle.wire_instances.proofs.text.write_nodes.Goals as goal

pub loop-node-preserved : goal.loop-node-preserved
loop-node-preserved c =
    node_step c.loop-node.node c.args.count c.loop-node.out.items c.write_node_line.new.out.items _ c.loop-node-test.true c.in_ok-write_node_line.ensures c.loop-node.invariant
