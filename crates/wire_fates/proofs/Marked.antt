-- Marks tell which events are live, and which are before which.
use Rattle.std.proofs.Common.{◌≡◌, ◌⊎◌, inl, inr, sym, Bool, true, false, ltb-true, lt-ltb}
use Rattle.std.specs.Prelude.{◌↔◌, nat_lt}
use Rattle.std.proofs.lemmas.Bool.{true≢false}
use Rattle.wire_runs.specs.Plan.{Plan, Event}
use Rattle.wire_runs.specs.Order.{Before}
use Rattle.wire_runs.specs.Laws.{HappensBefore}
use Rattle.wire_runs.proofs.Histories.{same_place}
use Rattle.wire_happens_before.specs.Clocks.{Clocks, marked_count, clock_of, AreMarks}
use Rattle.wire_happens_before.proofs.Growing.{before_iff, never_self}

abbrev is_before : (clocks : Clocks) (x y : Event) → (x ≡ y) ⊎ (x ≡ y → ⊥) → Bool
is_before clocks x y (inl e) = false
is_before clocks x y (inr other) = nat_lt x.at (clock_of clocks y x.proc)

tells : (plan : Plan) (clocks : Clocks) → AreMarks plan clocks → (x y : Event) (same : (x ≡ y) ⊎ (x ≡ y → ⊥)) → (is_before clocks x y same ≡ true) ↔ Before plan x y
tells plan clocks m x y (inl e) = ((λ t. absurd (true≢false (sym t))), (λ b. absurd (never_self plan x y e b)))
tells plan clocks m x y (inr other) =
    let iff = before_iff plan clocks x y m other in
    ((λ t. iff.0 (ltb-true x.at (clock_of clocks y x.proc) t)), (λ b. lt-ltb x.at (clock_of clocks y x.proc) (iff.1 b)))

pub marks_of : (plan : Plan) (clocks : Clocks) → AreMarks plan clocks → HappensBefore plan
marks_of plan clocks m = record {
  alive = λ y. nat_lt y.at (marked_count clocks y.proc);
  before = λ x y. is_before clocks x y (same_place x y);
  tells_live = λ y. (
    (λ t. (m.live y).0 (ltb-true y.at (marked_count clocks y.proc) t)),
    (λ l. lt-ltb y.at (marked_count clocks y.proc) ((m.live y).1 l)),
  );
  tells_before = λ x y. tells plan clocks m x y (same_place x y);
}
