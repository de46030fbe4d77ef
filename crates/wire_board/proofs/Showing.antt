-- What the positions that a seat knows show of an event's sources.
use Rattle.std.proofs.Common.{◌≡◌, ℕ, zero, suc, ◌<◌, List, [], ◌∷◌, ◌++◌, Bool, true, false, not, Option, Some, None, ◌↔◌, map, take, drop, length, get_or, refl, sym, ap, ◌∙◌, subst, inl, inr}
use Rattle.std.proofs.Common.{arith, lt-ltb, ltb-true}
use Rattle.std.specs.Prelude.{slice_get, slice_index, option_map, option_to_list, is_some, if◌then◌else◌}
use Rattle.std.specs.List.{list_all}
use Rattle.std.proofs.lemmas.Bool.{and_parts, and_from, and_cases, cases_Bool, true≢false}
use Rattle.std.proofs.lemmas.Option.{same_Some}
use Rattle.std.proofs.lemmas.List.Folds.{list_all-map}
use Rattle.wire_types.specs.declared.Event.{Event as CodeEvent}
use Rattle.wire_runs.specs.Plan.{Plan, Event, event_of, event_count}
use Rattle.wire_runs.specs.Fate.{Waits, HasFate}
use Rattle.wire_scripts.specs.Scripts.{Scripts}
use Rattle.wire_scripts.specs.Planned.{plan_of}
use Rattle.wire_plan.specs.Index.{AreSources}
use Rattle.wire_board.specs.Cuts.{shows_event, skip_shown, ShowsSources}
use Rattle.wire_board.specs.declared.hold.Hold.{Hold}
use Rattle.wire_board.specs.Positions.{hold, next_in, ShowsNextIn}

all_at : (p : Event → Bool) (xs : List Event) (k : ℕ) (x : Event) → list_all p xs ≡ true → slice_get xs k ≡ Some x → p x ≡ true
all_at p [] k x all is = absurd (none_some is)
  where
    none_some : ◌≡◌ {A = Option Event} None (Some x) → ⊥
    none_some e = cc
all_at p (y ∷ ys) zero x all is = subst (λ z. p z ≡ true) (same_Some y x is) (and_parts _ _ all).0
all_at p (y ∷ ys) (suc k) x all is = all_at p ys k x (and_parts _ _ all).1 is

all_from : (p : Event → Bool) (xs : List Event) → ((k : ℕ) (x : Event) → slice_get xs k ≡ Some x → p x ≡ true) → list_all p xs ≡ true
all_from p [] each = refl
all_from p (x ∷ xs) each = and_from _ _ (each zero x refl) (all_from p xs (λ k z is. each (suc k) z is))

-- the sources that are looked at are all of them
pub sources_shown : (plan : Plan) (known : List ℕ) (y : Event) (sources : List Event) → AreSources plan y sources → (list_all (shows_event known) sources ≡ true) ↔ ShowsSources plan known y
sources_shown plan known y sources are = (
  λ all x e. let w = are.all x e in ltb-true x.at (slice_index known x.proc) (all_at (shows_event known) sources w.0 x all w.1),
  λ shown. all_from (shows_event known) sources (λ k x is. lt-ltb x.at (slice_index known x.proc) (shown x (are.only k x is))),
)

-- Sources that are skipped because they are shown

pub skip_one : (known : List ℕ) (x : Event) (xs : List Event) → shows_event known x ≡ true → skip_shown known (x ∷ xs) ≡ skip_shown known xs
skip_one known x xs e = ap (λ (b : Bool). if b then skip_shown known xs else x ∷ xs) e

pub skip_none : (known : List ℕ) (x : Event) (xs : List Event) → shows_event known x ≡ false → skip_shown known (x ∷ xs) ≡ x ∷ xs
skip_none known x xs e = ap (λ (b : Bool). if b then skip_shown known xs else x ∷ xs) e

-- the first of these events that isn't shown
pub skip_to : (known : List ℕ) (events : List CodeEvent) (at : ℕ) (d : CodeEvent) → at < length events
    → list_all (λ e. shows_event known (event_of e)) (take at events) ≡ true → shows_event known (event_of (get_or events at d)) ≡ false
    → map event_of (drop at events) ≡ skip_shown known (map event_of events)
skip_to known [] at d lt before here = absurd (omega (arith, lt))
skip_to known (x ∷ xs) zero d lt before here = sym (skip_none known (event_of x) (map event_of xs) here)
skip_to known (x ∷ xs) (suc at) d lt before here =
    let parts = and_parts _ _ before in
    skip_to known xs at d (omega (arith, lt)) parts.1 here ∙ sym (skip_one known (event_of x) (map event_of xs) parts.0)

pub skip_all : (known : List ℕ) (xs : List Event) → list_all (shows_event known) xs ≡ true → skip_shown known xs ≡ []
skip_all known [] all = refl
skip_all known (x ∷ xs) all = let parts = and_parts _ _ all in skip_one known x xs parts.0 ∙ skip_all known xs parts.1

pub skip_events : (known : List ℕ) (events : List CodeEvent) → list_all (λ e. shows_event known (event_of e)) events ≡ true → skip_shown known (map event_of events) ≡ []
skip_events known events all = skip_all known (map event_of events) (list_all-map (shows_event known) event_of events ∙ all)

-- an event that needn't be there, and more behind it
pub skip_awaited : (known : List ℕ) (o : Option CodeEvent) (xs : List Event) → true ≡ list_all (shows_event known) (option_to_list (option_map event_of o))
    → skip_shown known (option_to_list (option_map event_of o) ++ xs) ≡ skip_shown known xs
skip_awaited known None xs shown = refl
skip_awaited known (Some x) xs shown = skip_one known (event_of x) xs (and_parts _ _ (sym shown)).0

pub skip_not : (known : List ℕ) (o : Option CodeEvent) (xs : List Event) → false ≡ list_all (shows_event known) (option_to_list (option_map event_of o))
    → skip_shown known (option_to_list (option_map event_of o) ++ xs) ≡ option_to_list (option_map event_of o) ++ xs
skip_not known None xs shown = absurd (true≢false (sym shown))
skip_not known (Some x) xs shown = skip_none known (event_of x) xs (elim (and_cases _ _ (sym shown)) [ inl e ↦ e | inr e ↦ absurd (true≢false e) ])

-- nothing is left exactly where all are shown
pub none_left : (known : List ℕ) (xs : List Event) → (slice_get (skip_shown known xs) 0 ≡ None) ↔ (list_all (shows_event known) xs ≡ true)
none_left known [] = (λ _. refl, λ _. refl)
none_left known (x ∷ xs) = elim (cases_Bool (shows_event known x)) [
  | inl t ↦ (
    λ none. and_from _ _ t ((none_left known xs).0 (ap (λ ys. slice_get ys 0) (sym (skip_one known x xs t)) ∙ none)),
    λ all. ap (λ ys. slice_get ys 0) (skip_all known (x ∷ xs) all),
  )
  | inr f ↦ (
    λ none. absurd (some_none x (ap (λ ys. slice_get ys 0) (sym (skip_none known x xs f)) ∙ none)),
    λ all. ap (λ ys. slice_get ys 0) (skip_all known (x ∷ xs) all),
  )
]
  where
    some_none : (x : Event) → ◌≡◌ {A = Option Event} (Some x) None → ⊥
    some_none x e = cc

-- told by the first of those that are left
pub none_told : (known : List ℕ) (xs ys : List Event) (o : Option CodeEvent) (b : Bool) → is_some o ≡ not b → option_map event_of o ≡ slice_get ys 0 → ys ≡ skip_shown known xs →
    (b ≡ true) ↔ (list_all (shows_event known) xs ≡ true)
none_told known xs ys None true told first are = (λ _. (none_left known xs).0 (ap (λ zs. slice_get zs 0) (sym are) ∙ sym first), λ _. refl)
none_told known xs ys None false told first are = absurd (true≢false (sym told))
none_told known xs ys (Some x) true told first are = absurd (true≢false told)
none_told known xs ys (Some x) false told first are = (
  λ e. absurd (true≢false (sym e)),
  λ all. absurd (there (event_of x) (first ∙ (ap (λ zs. slice_get zs 0) are ∙ (none_left known xs).1 all))),
)
  where
    there : (y : Event) → ◌≡◌ {A = Option Event} (Some y) None → ⊥
    there y e = cc

-- The owner of a rank whose positions show that its next event can happen, told of the plan and the event that the code has

pub shown_from : (own plan : Scripts) (h : Hold) (y : Event) → own ≡ plan → y ≡ next_in h → y.at < event_count (plan_of plan) y.proc → ShowsSources (plan_of plan) h.known y →
    ¬ (HasFate (plan_of plan) y Waits) → ShowsNextIn (plan_of own) h
shown_from own plan h y of is there sources comes =
    let P : Scripts × Event → Type 0 = λ t. (t.1.at < event_count (plan_of t.0) t.1.proc) × (ShowsSources (plan_of t.0) h.known t.1) × ¬ (HasFate (plan_of t.0) t.1 Waits) in
    let all : P (own, next_in h) = subst P (λ i. (sym of i, is i)) (there, sources, comes) in
    record { next = all.0; sources = all.1; comes = all.2 }

pub shown_sources : (own plan : Scripts) (h : Hold) (y : Event) → own ≡ plan → y ≡ next_in h → ShowsNextIn (plan_of own) h → ShowsSources (plan_of plan) h.known y
shown_sources own plan h y of is shown = subst (λ (t : Scripts × Event). ShowsSources (plan_of t.0) h.known t.1) (λ i. (of i, sym is i)) shown.sources

pub shown_comes : (own plan : Scripts) (h : Hold) (y : Event) → own ≡ plan → y ≡ next_in h → ShowsNextIn (plan_of own) h → ¬ (HasFate (plan_of plan) y Waits)
shown_comes own plan h y of is shown = subst (λ (t : Scripts × Event). ¬ (HasFate (plan_of t.0) t.1 Waits)) (λ i. (of i, sym is i)) shown.comes

-- whichever scripts the owner has
pub shown_of : (own plan : Scripts) (rank : ℕ) (known : List ℕ) → own ≡ plan → ShowsNextIn (plan_of own) (hold own rank known) → ShowsNextIn (plan_of plan) (hold plan rank known)
shown_of own plan rank known of shown = subst (λ p. ShowsNextIn (plan_of p) (hold p rank known)) of shown
