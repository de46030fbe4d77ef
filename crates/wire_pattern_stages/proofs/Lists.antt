-- What is so of the first of a list, of all of it, and past its end.
use Rattle.std.proofs.Common.{◌≡◌, ℕ, ◌+◌, ◌<◌, ◌≤◌, List, Some, None, map, length, inl, inr, ap, sym, ◌∙◌, subst, arith}
use Rattle.std.specs.Prelude.{slice_get, slice_index_or, option_map}
use Rattle.std.proofs.lemmas.Bool.{cases_eq}
use Rattle.std.proofs.lemmas.List.{length-map}
use Rattle.std.proofs.lemmas.Option.{slice_get-map, slice_get-get_or, slice_get_within, slice_get_past, same_Some}
use Rattle.wire_runs.specs.Plan.{Plan, Event, event_of, kind, kind_at, event_count}
use Rattle.wire_types.specs.declared.place.Event.{Event as CodeEvent}

pub place_at : (run : List CodeEvent) (k : ℕ) (d : CodeEvent) → k < length run → slice_get (map event_of run) k ≡ Some (event_of (slice_index_or run k d))
place_at run k d lt = slice_get-map event_of run k ∙ ap (option_map event_of) (slice_get-get_or run k d lt)

pub one_more : {A : Type 0} (holds : A → Type 0) (xs : List A) (n : ℕ) (x : A) → slice_get xs n ≡ Some x → ((k : ℕ) (z : A) → k < n → slice_get xs k ≡ Some z → holds z)
    → holds x → (k : ℕ) (z : A) → k < n + 1 → slice_get xs k ≡ Some z → holds z
one_more holds xs n x at before here k z lt is = elim (cases_eq k n) [
  | inl same ↦ subst holds (same_Some _ _ (sym at ∙ subst (λ i. slice_get xs i ≡ Some z) same is)) here
  | inr other ↦ before k z (omega (arith, lt, other)) is
]

pub all_events : (holds : Event → Type 0) (events : List CodeEvent) (n : ℕ) → length events ≤ n → ((k : ℕ) (z : Event) → k < n → slice_get (map event_of events) k ≡ Some z → holds z)
    → (k : ℕ) (z : Event) → slice_get (map event_of events) k ≡ Some z → holds z
all_events holds events n le before k z is = before k z (let lt = slice_get_within (map event_of events) k z is in let size = length-map events event_of in omega (arith, lt, le, size)) is

pub one_number : (holds : ℕ → Type 0) (n : ℕ) → ((k : ℕ) → k < n → holds k) → holds n → (k : ℕ) → k < n + 1 → holds k
one_number holds n before here k lt = elim (cases_eq k n) [
  | inl same ↦ subst holds (sym same) here
  | inr other ↦ before k (omega (arith, lt, other))
]

pub past_none : (plan : Plan) (x : Event) → event_count plan x.proc ≤ x.at → kind plan x ≡ None
unfolding kind_at event_count
past_none plan x past = slice_get_past _ x.at past
