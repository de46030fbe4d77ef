use Rattle.std.proofs.Common.{ℕ, ◌≤◌, ◌<◌, ◌≡◌, length}
use Rattle.std.specs.Option.{ForSome}
use Rattle.wire_store.specs.Slots.{last_slot}
use Rattle.wire_store.proofs.Chained.{StandsAt, steps_left}
use Rattle.wire_store.proofs.chain.last_before.Given as goal

abbrev pub invariant-loop-last : goal.invariant-loop-last
invariant-loop-last l = record {
  there : ForSome l.last (λ i. i < length l.slots);
  stands : (key n : ℕ) → n ≤ length l.slots → l.fn.stored ≡ last_slot l.slots key n → StandsAt l.slots key l.event n l.last;
}

abbrev pub decreases-loop-last : goal.decreases-loop-last
decreases-loop-last l = steps_left l.last
