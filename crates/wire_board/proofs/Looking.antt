-- What a lane's seat shows once it has read words.
use Rattle.std.proofs.Common.{◌≡◌, ◌∙◌, ◌⊎◌, ap, sym, refl, subst, inl, inr, ℕ, zero, suc, ◌<◌, ◌≤◌, List, [], ◌∷◌, true, false, Option, Some, None, IfSome, length, arith, lt-ltb}
use Rattle.std.proofs.Common.{ltb-true}
use Rattle.std.specs.Prelude.{◌≢◌, ◌↔◌, MatchOption, option_map, slice_get, slice_index, slice_set}
use Rattle.std.proofs.lemmas.Bool.{cases_Bool, true≢false}
use Rattle.std.proofs.lemmas.Option.{same_Some, none-some, IfSome_then}
use Rattle.wire_types.specs.declared.Event.{Event as CodeEvent}
use Rattle.wire_runs.specs.Plan.{Plan, Event, event_of, event_count}
use Rattle.wire_runs.specs.Fate.{HasFate, Waits}
use Rattle.wire_runs.specs.Order.{Edge}
use Rattle.wire_runs.proofs.Lists.{set_raises, not_in_empty}
use Rattle.wire_scripts.specs.Scripts.{Scripts}
use Rattle.wire_scripts.specs.Planned.{plan_of}
use Rattle.wire_plan.specs.Index.{AreSources}
use Rattle.wire_fates.specs.declared.Fate.{Fate}
use Rattle.wire_fates.specs.declared.Fate.TheVariants.{Waits as CodeWaits}
use Rattle.wire_fates.specs.Fates.{IsFateOf}
use Rattle.wire_board.specs.Cuts.{shows_event, skip_shown, ShowsSources, ImpliesSources}
use Rattle.wire_board.specs.Seats.{BoardIs, SeatIs, place_of, hold_of, next_of, ShowsNext, ImpliesNext}
use Rattle.wire_board.proofs.Cuts.{shown_implied}
use Rattle.wire_board.proofs.Showing.{skip_one, skip_none}
use Rattle.wire_board.specs.Lanes.{LaneIs, HasRead, IsLane, AreLeft}
use Rattle.wire_board.proofs.Trails.{get_set, kept_reading}

pub read_nothing : (lane : LaneIs) → HasRead lane lane
read_nothing lane = record { board = refl; rank = refl; trail = refl; place = refl; rises = λ k. omega arith }

pub read_twice : (one two three : LaneIs) → HasRead one two → HasRead two three → HasRead one three
read_twice one two three a b = record {
  board = b.board ∙ a.board;
  rank = b.rank ∙ a.rank;
  trail = b.trail ∙ a.trail;
  place = b.place ∙ a.place;
  rises = λ k. (let x = a.rises k in let y = b.rises k in omega (arith, x, y));
}

-- one word was read
pub read_word : (seat new : SeatIs) (trail : List Fate) (k n : ℕ) → new ≡ record { board = seat.board; rank = seat.rank; known = slice_set seat.known k n } → slice_index seat.known k ≤ n →
    (k ≡ seat.rank → n ≡ place_of seat) → HasRead (record { seat = seat; trail = trail }) (record { seat = new; trail = trail })
read_word seat new trail k n is rises own = subst (λ s. HasRead (record { seat = seat; trail = trail }) (record { seat = s; trail = trail })) (sym is) (record {
  board = refl;
  rank = refl;
  trail = refl;
  place = get_set seat.known k seat.rank n own;
  rises = set_raises seat.known k n rises;
})

-- what was shown stays shown
pub shown_still : (old new : LaneIs) → HasRead old new → (x : Event) → shows_event old.seat.known x ≡ true → shows_event new.seat.known x ≡ true
shown_still old new r x shown =
    let lt = ltb-true x.at (slice_index old.seat.known x.proc) shown in
    let le = r.rises x.proc in
    lt-ltb x.at (slice_index new.seat.known x.proc) (omega (arith, lt, le))

-- the next event is the same
pub next_same : (old new : LaneIs) → HasRead old new → next_of old.seat ≡ next_of new.seat
next_same old new r = λ i. record { proc = sym r.rank i; at = sym r.place i }

pub next_still : (old new : LaneIs) (y : Event) → HasRead old new → y ≡ next_of old.seat → y ≡ next_of new.seat
next_still old new y r is = is ∙ next_same old new r

pub plan_still : (old new : LaneIs) (settled : Scripts) → HasRead old new → old.seat.board.plan ≡ settled → new.seat.board.plan ≡ settled
plan_still old new settled r is = ap (λ (b : BoardIs). b.plan) r.board ∙ is

-- the scripts of a lane are those of the plan that it borrows
pub lane_plan : (board : BoardIs) (settled : Scripts) (lane : LaneIs) (capacity : ℕ) → IsLane board settled lane.seat lane.trail capacity → lane.seat.board.plan ≡ settled
lane_plan board settled lane capacity kept = ap (λ (b : BoardIs). b.plan) kept.board_is ∙ kept.plan_is

-- Sources that are left

-- all of them, at first
pub left_first : (plan : Plan) (seat : SeatIs) (y : Event) (xs : List Event) → y ≡ next_of seat → AreSources plan y xs → AreLeft plan seat xs
left_first plan seat y xs is are = record {
  only = λ k x at. subst (Edge plan x) is (are.only k x at);
  all = λ x e. inr (are.all x (subst (Edge plan x) (sym is) e));
}

-- the seat has read words
pub left_read : (plan : Plan) (old new : LaneIs) (xs : List Event) → HasRead old new → AreLeft plan old.seat xs → AreLeft plan new.seat xs
left_read plan old new xs r left = record {
  only = λ k x at. subst (Edge plan x) (next_same old new r) (left.only k x at);
  all = λ x e. elim (left.all x (subst (Edge plan x) (sym (next_same old new r)) e)) [
    | inl shown ↦ inl (shown_still old new r x shown)
    | inr there ↦ inr there
  ];
}

in_skipped : (known : List ℕ) (xs : List Event) (k : ℕ) (x : Event) → slice_get (skip_shown known xs) k ≡ Some x → (j : ℕ) × (slice_get xs j ≡ Some x)
in_skipped known [] k x at = (k, at)
in_skipped known (y ∷ ys) k x at = elim (cases_Bool (shows_event known y)) [
  | inl t ↦ (let h = in_skipped known ys k x (ap (λ zs. slice_get zs k) (sym (skip_one known y ys t)) ∙ at) in (suc h.0, h.1))
  | inr f ↦ (k, ap (λ zs. slice_get zs k) (sym (skip_none known y ys f)) ∙ at)
]

skipped_in : (known : List ℕ) (xs : List Event) (k : ℕ) (x : Event) → slice_get xs k ≡ Some x → (shows_event known x ≡ true) ⊎ ((j : ℕ) × (slice_get (skip_shown known xs) j ≡ Some x))
skipped_in known [] k x at = absurd (not_in_empty k x at)
skipped_in known (y ∷ ys) zero x at = elim (cases_Bool (shows_event known y)) [
  | inl t ↦ inl (subst (λ z. shows_event known z ≡ true) (same_Some y x at) t)
  | inr f ↦ inr (0, ap (λ zs. slice_get zs 0) (skip_none known y ys f) ∙ at)
]
skipped_in known (y ∷ ys) (suc k) x at = elim (cases_Bool (shows_event known y)) [
  | inl t ↦ elim (skipped_in known ys k x at) [ inl s ↦ inl s | inr j ↦ inr (j.0, ap (λ zs. slice_get zs j.0) (skip_one known y ys t) ∙ j.1) ]
  | inr f ↦ inr (suc k, ap (λ zs. slice_get zs (suc k)) (skip_none known y ys f) ∙ at)
]

-- those are skipped that the seat knows to be done
pub left_skipped : (plan : Plan) (seat : SeatIs) (xs ys : List Event) → AreLeft plan seat xs → ys ≡ skip_shown seat.known xs → AreLeft plan seat ys
left_skipped plan seat xs ys left is = subst (AreLeft plan seat) (sym is) (record {
  only = λ k x at. let h = in_skipped seat.known xs k x at in left.only h.0 x h.1;
  all = λ x e. elim (left.all x e) [ inl s ↦ inl s | inr j ↦ skipped_in seat.known xs j.0 x j.1 ];
})

-- where none is left, all sources are known to be done
pub left_none : (plan : Plan) (seat : SeatIs) (xs : List Event) → slice_get xs 0 ≡ None → AreLeft plan seat xs → ShowsSources plan seat.known (next_of seat)
left_none plan seat [] none left = λ x e. elim (left.all x e) [ inl s ↦ ltb-true x.at (slice_index seat.known x.proc) s | inr j ↦ absurd (not_in_empty j.0 x j.1) ]
left_none plan seat (y ∷ ys) none left = absurd (none-some y (sym none))

-- where one that is left isn't done, they aren't
pub left_head : (plan : Plan) (seat : SeatIs) (xs : List Event) (x : Event) → slice_get xs 0 ≡ Some x → shows_event seat.known x ≡ false → AreLeft plan seat xs →
    ShowsSources plan seat.known (next_of seat) → ⊥
left_head plan seat xs x at no_ left shown =
    let lt = shown x (left.only 0 x at) in
    true≢false (sym (lt-ltb x.at (slice_index seat.known x.proc) lt) ∙ no_)

skip_le : (known : List ℕ) (xs : List Event) → length (skip_shown known xs) ≤ length xs
skip_le known [] = omega arith
skip_le known (y ∷ ys) = elim (cases_Bool (shows_event known y)) [
  | inl t ↦ (let e = ap length (skip_one known y ys t) in let le = skip_le known ys in omega (arith, e, le))
  | inr f ↦ (let e = ap length (skip_none known y ys f) in omega (arith, e))
]

pub skip_shorter : (known : List ℕ) (xs ys : List Event) (x : Event) → slice_get xs 0 ≡ Some x → shows_event known x ≡ true → ys ≡ skip_shown known xs → length ys < length xs
skip_shorter known [] ys x at t is = absurd (not_in_empty 0 x at)
skip_shorter known (y ∷ zs) ys x at t is =
    let e = ap length (is ∙ skip_one known y zs (subst (λ z. shows_event known z ≡ true) (sym (same_Some y x at)) t)) in
    let le = skip_le known zs in
    omega (arith, e, le)

-- what the type of a lane keeps, where its seat reads a word
pub kept_looking : {A : Type 0} (board : BoardIs) (settled : Scripts) (seat new : SeatIs) (k n : ℕ) (trail : List Fate) (capacity : ℕ) (events : A → List Event) (noted : Option A) →
    IsLane board settled seat trail capacity → IfSome noted (λ s. AreLeft (plan_of settled) seat (events s))
    → new ≡ record { board = seat.board; rank = seat.rank; known = slice_set seat.known k n } → slice_index seat.known k ≤ n → (k ≡ seat.rank → n ≡ place_of seat) →
    IsLane board settled new trail capacity × IfSome noted (λ s. AreLeft (plan_of settled) new (events s))
kept_looking board settled seat new k n trail capacity events noted kept left is rises own = (
  kept_reading board settled seat new k n trail capacity kept is own,
  IfSome_then noted left (λ s are. left_read (plan_of settled) (record { seat = seat; trail = trail }) (record { seat = new; trail = trail }) (events s) (read_word seat new trail k n is rises own)
      are),
)

-- the scripts of a lane, told of the value that contracts see
pub plan_told : (board : BoardIs) (settled : Scripts) (inside now : LaneIs) (capacity : ℕ) → IsLane board settled inside.seat inside.trail capacity → inside ≡ now → now.seat.board.plan ≡ settled
plan_told board settled inside now capacity kept view = subst (λ (l : LaneIs). l.seat.board.plan ≡ settled) view (lane_plan board settled inside capacity kept)

-- what is left stays left, by the lane's own scripts
pub left_on : (old new : LaneIs) (xs : List Event) → HasRead old new → AreLeft (plan_of old.seat.board.plan) old.seat xs → AreLeft (plan_of new.seat.board.plan) new.seat xs
left_on old new xs r left = subst (λ (b : BoardIs). AreLeft (plan_of b.plan) new.seat xs) (sym r.board) (left_read (plan_of old.seat.board.plan) old new xs r left)

-- the scripts of a lane whose seat has read, and the next event of its rank
pub next_told : (board : BoardIs) (settled : Scripts) (inside now new : LaneIs) (capacity : ℕ) (y : Event) → IsLane board settled inside.seat inside.trail capacity → inside ≡ now → HasRead now new →
    y.proc ≡ inside.seat.rank → y.at ≡ length inside.trail → (new.seat.board.plan ≡ settled) × (y ≡ next_of new.seat)
next_told board settled inside now new capacity y kept view read here long = (
  plan_still now new settled read (subst (λ (l : LaneIs). l.seat.board.plan ≡ settled) view (lane_plan board settled inside capacity kept)),
  next_still now new y read (subst (λ (l : LaneIs). y ≡ next_of l.seat) view (λ i. record { proc = here i; at = (long ∙ kept.as_long) i })),
)

-- the first of those that are left is one for which the next event waits
pub first_missing : (plan : Plan) (seat : SeatIs) (xs : List Event) (o : Option CodeEvent) → option_map event_of o ≡ slice_get xs 0 → AreLeft plan seat xs
    → IfSome o (λ x. Edge plan (event_of x) (next_of seat))
first_missing plan seat xs None first left = tt
first_missing plan seat xs (Some x) first left = left.only 0 (event_of x) (sym first)

-- What the fate of the next event tells, once the seat has read

there_still : (old new : LaneIs) (y : Event) → HasRead old new → y ≡ next_of old.seat → y.at < event_count (plan_of old.seat.board.plan) y.proc
    → place_of new.seat < event_count (plan_of new.seat.board.plan) new.seat.rank
there_still old new y r is there =
    let plans = ap (λ (b : BoardIs). b.plan) (sym r.board) in
    let next = next_still old new y r is in
    subst (λ (t : Scripts × Event). t.1.at < event_count (plan_of t.0) t.1.proc) (λ i. (plans i, next i)) there

-- the fate, or that it is to wait
abbrev IsNextFate : SeatIs → Option Fate → Type 0
IsNextFate seat o = MatchOption o (HasFate (plan_of seat.board.plan) (next_of seat) Waits)
    (λ fate. ¬ (HasFate (plan_of seat.board.plan) (next_of seat) Waits) × IsFateOf (plan_of seat.board.plan) (next_of seat) fate × (fate ≢ CodeWaits))

pub shown_fate : (old new : LaneIs) (y : Event) (o : Option Fate) → HasRead old new → y ≡ next_of old.seat → y.at < event_count (plan_of old.seat.board.plan) y.proc
    → ShowsSources (plan_of new.seat.board.plan) new.seat.known (next_of new.seat) → IsNextFate new.seat o → (o ≢ None) ↔ ShowsNext new.seat
shown_fate old new y None r is there sources told = (λ ne. absurd (ne refl), λ shown. absurd (shown.comes told))
shown_fate old new y (Some fate) r is there sources told = (λ _. record { next = there_still old new y r is there; sources = sources; comes = told.0 }, λ _ none. none-some fate (sym none))

pub implied_fate : (old new : LaneIs) (y : Event) (o : Option Fate) → HasRead old new → y ≡ next_of old.seat → y.at < event_count (plan_of old.seat.board.plan) y.proc
    → ImpliesSources (plan_of new.seat.board.plan) new.seat.known (next_of new.seat) → IsNextFate new.seat o
    → IfSome o (λ fate. ImpliesNext new.seat × IsFateOf (plan_of new.seat.board.plan) (next_of new.seat) fate × (fate ≢ CodeWaits))
implied_fate old new y None r is there sources told = tt
implied_fate old new y (Some fate) r is there sources told = (record { next = there_still old new y r is there; sources = sources; comes = told.0 }, told.1, told.2)

pub fate_alone : (seat : SeatIs) (o : Option Fate) → IsNextFate seat o → IfSome o (λ fate. IsFateOf (plan_of seat.board.plan) (next_of seat) fate × (fate ≢ CodeWaits))
fate_alone seat None told = tt
fate_alone seat (Some fate) told = (told.1, told.2)

-- what is shown is implied
pub due_told : (seat : SeatIs) (o : Option Fate) → (o ≢ None) ↔ ShowsNext seat → IfSome o (λ fate. IsFateOf (plan_of seat.board.plan) (next_of seat) fate × (fate ≢ CodeWaits))
    → MatchOption o (¬ (ShowsNext seat)) (λ fate. ImpliesNext seat × IsFateOf (plan_of seat.board.plan) (next_of seat) fate × (fate ≢ CodeWaits))
due_told seat None ready fate = λ shown. ready.1 shown refl
due_told seat (Some x) ready fate = (shown_implied (plan_of seat.board.plan) (hold_of seat) (ready.0 (λ none. none-some x (sym none))), fate.0, fate.1)
