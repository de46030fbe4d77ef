-- Trails that grow.
use Rattle.std.proofs.Common.{◌≡◌, ℕ, zero, suc, ◌+◌, ◌-◌, ◌<◌, ◌≤◌, List, [], ◌∷◌, ◌++◌, Some, length, inl, inr, get_or, set, refl, sym, ap, ◌∙◌, subst, arith, append-nil, append_assoc}
use Rattle.std.proofs.Common.{length-append}
use Rattle.std.specs.Prelude.{◌≢◌, slice_get, slice_set}
use Rattle.std.proofs.lemmas.Bool.{cases_lt}
use Rattle.std.proofs.lemmas.Option.{same_Some, slice_get-get_or}
use Rattle.wire_runs.specs.Plan.{Plan, Event, event_count}
use Rattle.wire_runs.specs.Races.{IsSettled}
use Rattle.wire_runs.proofs.Fates.{one_fate}
use Rattle.wire_runs.proofs.Lists.{slice_get_push_cases}
use Rattle.wire_fates.specs.declared.Fate.{Fate}
use Rattle.wire_fates.specs.declared.Fate.TheVariants.{Waits}
use Rattle.wire_fates.specs.Fates.{IsFateOf, fate_told}
use Rattle.wire_fates.proofs.Fates.{there_if}
use Rattle.wire_scripts.specs.Scripts.{Scripts}
use Rattle.wire_scripts.specs.Planned.{plan_of}
use Rattle.wire_board.specs.Seats.{BoardIs, SeatIs, place_of, next_of}
use Rattle.wire_board.specs.Lanes.{AreFates, Grows, LaneIs, IsLane, IsTrail}

pub fates_none : (plan : Plan) (rank : ℕ) (trail : List Fate) → trail ≡ [] → AreFates plan rank trail
fates_none plan rank trail none = subst (AreFates plan rank) (sym none) (λ i fate is. absurd (nothing i fate is))
  where
    nothing : (i : ℕ) (fate : Fate) → slice_get {X = Fate} [] i ≡ Some fate → ⊥
    nothing i fate e = cc

-- the fate of the next event
pub fates_push : (plan : Plan) (rank : ℕ) (old new : List Fate) (x : Fate) → AreFates plan rank old → IsFateOf plan (record { proc = rank; at = length old }) x × (x ≢ Waits) → new ≡ old ++ x ∷ [] →
    AreFates plan rank new
fates_push plan rank old new x are next is = subst (AreFates plan rank) (sym is) (λ i fate at. elim (slice_get_push_cases old x i fate at) [
  | inl was ↦ are i fate was
  | inr e ↦ subst (λ n. IsFateOf plan (record { proc = rank; at = n }) fate × (fate ≢ Waits)) (sym e.0)
      (subst (λ f. IsFateOf plan (record { proc = rank; at = length old }) f × (f ≢ Waits)) e.1 next)
])

-- there are no more of them than the rank has events
pub fates_within : (plan : Plan) (rank : ℕ) (trail : List Fate) → IsSettled plan → AreFates plan rank trail → length trail ≤ event_count plan rank
fates_within plan rank trail settled are = elim (cases_lt (event_count plan rank) (length trail)) [
  | inl lt ↦ (let f = are (event_count plan rank) (get_or trail (event_count plan rank) Waits) (slice_get-get_or trail (event_count plan rank) Waits lt) in
      absurd (let n = there_if plan settled (record { proc = rank; at = event_count plan rank }) (get_or trail (event_count plan rank) Waits) f.0 f.1 in omega (arith, n)))
  | inr ge ↦ ge
]

-- each event has one fate
pub one_told : (plan : Plan) (y : Event) (a b : Fate) → IsSettled plan → IsFateOf plan y a → IsFateOf plan y b → a ≡ b
one_told plan y a b settled one two = one.is ∙ ap (fate_told plan) (one_fate plan y one.fate two.fate settled one.has two.has) ∙ sym two.is

pub grows_one : (old new : List Fate) (x : Fate) → new ≡ old ++ x ∷ [] → Grows old new 1
grows_one old new x is = record { added = x ∷ []; is = is; count = refl }

-- one trail is another with more behind
abbrev pub IsLonger : List Fate → List Fate → Type 0
IsLonger old new = (added : List Fate) × (new ≡ old ++ added)

pub longer_same : (old new : List Fate) → new ≡ old → IsLonger old new
longer_same old new same = ([], same ∙ sym (append-nil old))

pub longer_more : (old mid new last : List Fate) (n : ℕ) → IsLonger old mid → Grows mid new n → last ≡ new → IsLonger old last
longer_more old mid new last n one two same = (one.0 ++ two.added, same ∙ (two.is ∙ (ap (λ xs. xs ++ two.added) one.1 ∙ append_assoc old one.0 two.added)))

pub grows_far : (old new : List Fate) (n : ℕ) → IsLonger old new → n ≡ length new - length old → Grows old new n
grows_far old new n longer count = record {
  added = longer.0;
  is = longer.1;
  count = (let l = ap length longer.1 in let m = length-append old longer.0 in omega (arith, l, m, count));
}

pub longer_length : (old new : List Fate) → IsLonger old new → length old ≤ length new
longer_length old new longer = let l = ap length longer.1 in let m = length-append old longer.0 in omega (arith, l, m)

-- what the type of a lane keeps of its trail
pub trail_kept : (lane : LaneIs) (board : BoardIs) (settled : Scripts) (capacity : ℕ) → IsLane board settled lane.seat lane.trail capacity → IsTrail lane
trail_kept lane board settled capacity kept = record {
  as_long = kept.as_long;
  fates = subst (λ (p : Scripts). AreFates (plan_of p) lane.seat.rank lane.trail) (sym (ap (λ (b : BoardIs). b.plan) kept.board_is ∙ kept.plan_is)) kept.fates;
}

pub get_set : (xs : List ℕ) (k j n : ℕ) → (k ≡ j → n ≡ get_or xs j 0) → get_or (set xs k n) j 0 ≡ get_or xs j 0
get_set [] k j n own = refl
get_set (x ∷ xs) zero zero n own = own refl
get_set (x ∷ xs) zero (suc j) n own = refl
get_set (x ∷ xs) (suc k) zero n own = refl
get_set (x ∷ xs) (suc k) (suc j) n own = get_set xs k j n (λ same. own (ap suc same))

-- what the type of a lane keeps, where its seat reads a word
pub kept_reading : (board : BoardIs) (settled : Scripts) (seat new : SeatIs) (k n : ℕ) (trail : List Fate) (capacity : ℕ) → IsLane board settled seat trail capacity →
    new ≡ record { board = seat.board; rank = seat.rank; known = slice_set seat.known k n } → (k ≡ seat.rank → n ≡ place_of seat) → IsLane board settled new trail capacity
kept_reading board settled seat new k n trail capacity kept is own = subst (λ s. IsLane board settled s trail capacity) (sym is) (record {
  board_is = kept.board_is;
  plan_is = kept.plan_is;
  as_long = kept.as_long ∙ sym (get_set seat.known k seat.rank n own);
  fates = kept.fates;
  room = kept.room;
})

-- and where its next event happens
pub kept_stepping : (board : BoardIs) (settled : Scripts) (seat new : SeatIs) (trail longer : List Fate) (fate : Fate) (known : List ℕ) (capacity : ℕ) → IsLane board settled seat trail capacity →
    new ≡ record { board = seat.board; rank = seat.rank; known = known } → place_of new ≡ place_of seat + 1 → longer ≡ trail ++ fate ∷ [] → IsFateOf (plan_of settled) (next_of seat) fate
    × (fate ≢ Waits) → IsLane board settled new longer capacity
kept_stepping board settled seat new trail longer fate known capacity kept is place more next =
    let long = ap length more ∙ length-append trail (fate ∷ []) in
    let was = kept.as_long in
    let now : length longer ≡ place_of new = omega (arith, long, was, place) in
    let here = subst (λ n. IsFateOf (plan_of settled) (record { proc = seat.rank; at = n }) fate × (fate ≢ Waits)) (sym kept.as_long) next in
    let fates = fates_push (plan_of settled) seat.rank trail longer fate kept.fates here more in
    let rank : new.rank ≡ seat.rank = ap (λ (s : SeatIs). s.rank) is in record {
      board_is = ap (λ (s : SeatIs). s.board) is ∙ kept.board_is;
      plan_is = kept.plan_is;
      as_long = now;
      fates = subst (λ r. AreFates (plan_of settled) r longer) (sym rank) fates;
      room = subst (λ r. event_count (plan_of settled) r ≤ capacity) (sym rank) kept.room;
    }

-- each of the first n entries, and the next
pub fates_more : (plan : Plan) (rank n : ℕ) (trail : List Fate) (x : Fate) →
    ((i : ℕ) (fate : Fate) → i < n → slice_get trail i ≡ Some fate → IsFateOf plan (record { proc = rank; at = i }) fate × (fate ≢ Waits)) → slice_get trail n ≡ Some x →
    IsFateOf plan (record { proc = rank; at = n }) x × (x ≢ Waits)
    → (i : ℕ) (fate : Fate) → i < n + 1 → slice_get trail i ≡ Some fate → IsFateOf plan (record { proc = rank; at = i }) fate × (fate ≢ Waits)
fates_more plan rank n trail x before here is i fate lt at = elim (cases_lt i n) [
  | inl less ↦ before i fate less at
  | inr ge ↦ (let same : i ≡ n = omega (arith, lt, ge) in
      let value : x ≡ fate = same_Some x fate (sym here ∙ (ap (slice_get trail) (sym same) ∙ at)) in
      subst (λ (t : ℕ × Fate). IsFateOf plan (record { proc = rank; at = t.0 }) t.1 × (t.1 ≢ Waits)) (λ j. (sym same j, value j)) is)
]
