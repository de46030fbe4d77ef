use Rattle.std.proofs.Common.{◌≡◌, map, take, drop, ◌++◌}
use Rattle.wire_store.specs.Slots.{store_slot}
use Rattle.wire_store.proofs.chain.store_all.Given as goal

abbrev pub invariant-loop-slot : goal.invariant-loop-slot
invariant-loop-slot l = l.slots ≡ map (store_slot l.at) (take l.slot-index l.fn.slots) ++ drop l.slot-index l.fn.slots
