-- The same sources in another order.
use Rattle.std.proofs.Common.{◌≡◌, ◌∙◌, ℕ, zero, suc, List, ◌∷◌, Option, Some, None, IfSome, map, inl, inr}
use Rattle.std.specs.Prelude.{slice_get}
use Rattle.wire_types.specs.declared.Event.{Event as CodeEvent}
use Rattle.wire_runs.specs.Plan.{Plan, Event, event_of}
use Rattle.wire_runs.proofs.Lists.{slice_get-map_kept}
use Rattle.wire_plan.specs.Index.{source_list}
use Rattle.wire_board.specs.Seats.{SeatIs}
use Rattle.wire_board.specs.Lanes.{AreLeft, SameEvents}

pub same_list : (xs : List Event) → SameEvents xs xs
same_list xs = record { to = λ k x at. (k, at); from = λ k x at. (k, at) }

onward : (y : Event) (xs ys : List Event) → ((k : ℕ) (x : Event) → slice_get xs k ≡ Some x → (j : ℕ) × (slice_get ys j ≡ Some x)) → (k : ℕ) (x : Event) → slice_get (y ∷ xs) k ≡ Some x
    → (j : ℕ) × (slice_get (y ∷ ys) j ≡ Some x)
onward y xs ys f zero x at = (zero, at)
onward y xs ys f (suc k) x at = let h = f k x at in (suc h.0, h.1)

behind : (y : Event) (xs ys : List Event) → SameEvents xs ys → SameEvents (y ∷ xs) (y ∷ ys)
behind y xs ys same = record { to = onward y xs ys same.to; from = onward y ys xs same.from }

back : (e : Event) (xs : List Event) (i : ℕ) → slice_get xs i ≡ Some e → (k : ℕ) (x : Event) → slice_get (e ∷ xs) k ≡ Some x → (j : ℕ) × (slice_get xs j ≡ Some x)
back e xs i is zero x at = (i, is ∙ at)
back e xs i is (suc k) x at = (k, at)

in_front : (e : Event) (xs : List Event) (i : ℕ) → slice_get xs i ≡ Some e → SameEvents xs (e ∷ xs)
in_front e xs i is = record { to = λ k x at. (suc k, at); from = back e xs i is }

-- one of the arrivals in front of them
pub fronted : (p o : Option CodeEvent) (cs : List CodeEvent) → IfSome o (λ e. (k : ℕ) × (slice_get cs k ≡ Some e)) → SameEvents (source_list p None cs) (source_list p o cs)
fronted p None cs there = same_list (source_list p None cs)
fronted None (Some e) cs there = in_front (event_of e) (map event_of cs) there.0 (slice_get-map_kept event_of cs there.0 e there.1)
fronted (Some q) (Some e) cs there =
    behind (event_of q) (map event_of cs) (event_of e ∷ map event_of cs) (in_front (event_of e) (map event_of cs) there.0 (slice_get-map_kept event_of cs there.0 e there.1))

-- such a list of what is left serves as well
pub left_same : (plan : Plan) (seat : SeatIs) (xs ys : List Event) → SameEvents xs ys → AreLeft plan seat xs → AreLeft plan seat ys
left_same plan seat xs ys same left = record {
  only = λ k x at. let h = same.from k x at in left.only h.0 x h.1;
  all = λ x e. elim (left.all x e) [ inl s ↦ inl s | inr j ↦ inr (same.to j.0 x j.1) ];
}
