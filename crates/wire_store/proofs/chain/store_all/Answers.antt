use Rattle.std.proofs.Common.{◌<◌, length, arith}
use Rattle.wire_runs.proofs.Lists.{map_step}
use Rattle.wire_store.specs.Slots.{store_slot}
use Rattle.wire_store.proofs.chain.store_all.Goals as goal

pub loop-slot-preserved : goal.loop-slot-preserved
loop-slot-preserved c =
    let low : c.loop-slot.slot-index < length c.args.slots.now = omega arith in
    map_step (store_slot c.args.at) c.args.slots.now c.loop-slot.slots c.loop-slot.slot-index _ low c.loop-slot.invariant
