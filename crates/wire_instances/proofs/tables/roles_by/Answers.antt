use Rattle.wire_instances.proofs.Wholes.{roles_step}
use Rattle.wire_instances.proofs.tables.roles_by.Goals as goal

pub loop-number-preserved : goal.loop-number-preserved
loop-number-preserved c =
    roles_step c.args.sizes.now c.loop-number.number c.loop-number.roles.items c.push_copies.new.out.items _ c.loop-number-test.true
    c.in_ok-push_copies.ensures c.loop-number.invariant
