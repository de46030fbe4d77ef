use Rattle.std.proofs.Common.{◌≤◌, ℕ, map}
use Rattle.wire_runs.specs.Plan.{event_of}
use Rattle.wire_clocks.specs.Rising.{IsRaise, rising_says}
use Rattle.wire_happens_before.specs.Clocks.{base_at}
use Rattle.wire_happens_before.specs.Marking.{AreBased, IsGrown}
use Rattle.wire_happens_before.specs.Meeting.{IsJoin}
use Rattle.wire_happens_before.proofs.clocks.Clocks.join.Given as goal

abbrev pub invariant-loop-event : goal.invariant-loop-event
invariant-loop-event l = record {
  based : AreBased l.self;
  grown : IsGrown l.initial.self l.self;
  rising : IsRaise l.self.trees l.rising;
  join : IsJoin l.initial.self (map event_of l.events) l.event-index (rising_says l.self.trees l.rising);
  last : (q : ℕ) → base_at l.self l.last q ≤ rising_says l.self.trees l.rising q;
}
