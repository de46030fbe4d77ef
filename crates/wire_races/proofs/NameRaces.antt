-- Races on names: where the calls stand that race with one call, and how the findings grow.
use Rattle.std.proofs.Common.{◌≡◌, ◌≢◌, ◌⊎◌, ◌↔◌, inl, inr, ⊎_elim, ℕ, ◌+◌, ◌<◌, ◌≤◌, List, [], ◌∷◌, ◌++◌, map, length, true, Option, Some}
use Rattle.std.proofs.Common.{refl, sym, ap, ◌∙◌, subst, arith, length-append}
use Rattle.std.specs.Prelude.{false, leb, slice_get, slice_index_or, option_map, nat_lt}
use Rattle.std.specs.List.Sorted.{IsNonDecreasingBy, IsPartitionPoint}
use borrow.Author.Tests.{ltb-true, ltb-false, leb-true, leb-false}
use Rattle.std.proofs.lemmas.Option.{slice_get_within, slice_get_cases, slice_get-map}
use Rattle.std.proofs.lemmas.Bool.{cases_eq, cases_lt, cond_both, true≢false}
use Rattle.wire_runs.specs.Plan.{Plan, Event, Kind, Publish, Lookup, LookupWait, Unpublish, UnpublishAll, kind, event_count, event_of}
use Rattle.wire_types.specs.declared.place.Event.{Event as CodeEvent}
use Rattle.wire_runs.specs.Names.{writes_name, calls_name}
use Rattle.wire_runs.specs.Order.{Live, edge, Announces}
use Rattle.wire_runs.specs.EventLists.{IsLower}
use Rattle.wire_runs.specs.Fate.{IsIn}
use Rattle.wire_runs.specs.Races.{IsUnordered, IsNameRace}
use Rattle.wire_runs.specs.Findings.{Finding, NameRace, IsFound}
use Rattle.wire_findings.specs.declared.finding.Finding.{Finding as Told}
use Rattle.wire_plan.specs.Index.{is_plain_call, AreNameCalls}
use Rattle.wire_runs.proofs.Histories.{before_live, joined, same_process}
use Rattle.wire_runs.proofs.Diamond.{writes_calls}
use Rattle.wire_runs.proofs.Members.{in_index, index_in, in_left, in_right, in_parts}
use Rattle.wire_runs.proofs.Lists.{slice_get-append_kept}
use Rattle.wire_runs.proofs.Findings.{turned}
use Rattle.wire_plan.proofs.FirstBringing.{stands_at}
use Rattle.wire_findings.specs.Collected.{TellsFinding, AreFound, IsFindingAdded}
use Rattle.wire_races.specs.FindingKinds.{IsOfName}
use Rattle.wire_races.specs.Adding.{AddsFindings}
use Rattle.wire_races.specs.NameRaces.{IsRaceOn, IsPlainRaceOn, IsRaceFrom, IsNameRaceWith, AllRace, race_between, AreOf, AreRising}
use Rattle.wire_races.specs.NameRaces.{AreRivals, AreHigher, HasRivals, IsBelow, AreThoseUnordered}
use Rattle.wire_fates.specs.Cuts.{IsCut}
use Rattle.wire_races.specs.SweepRaces.{IsSweepRace}
use Rattle.wire_races.specs.declared.call_races.Border.{Border}
use Rattle.wire_races.specs.declared.call_races.Border.TheVariants.{FirstNotBefore, FirstAfter}
use Rattle.wire_races.proofs.Lists.{get_right, first_calls, other_calls}
use Rattle.wire_fates.proofs.Places.{place_at}
use Rattle.wire_findings.proofs.Calls.{starts_within, starts_named}
use Rattle.wire_races.proofs.Growing.{adds_one, adds_both}
use Rattle.wire_fates.proofs.Cuts.{HoldsInFront}

-- of the calls of a process those below a border are the first
below_earlier : (plan : Plan) (x : Event) (border : Border) (y z : Event) → y.proc ≡ z.proc → y.at < z.at → IsBelow plan x border z → IsBelow plan x border y
below_earlier plan x FirstNotBefore y z same lt before = joined (same_process plan y z (before_live before) same lt) before
below_earlier plan x FirstAfter y z same lt h =
    let step = same_process plan y z h.0 same lt in
    (before_live step, λ after. h.1 (joined after step))

at_lower : (y z : Event) → y.proc ≡ z.proc → IsLower y z → y.at < z.at
at_lower y z same (inl lt) = absurd (omega (arith, same, lt))
at_lower y z same (inr h) = h.1

pub borders : (plan : Plan) (x : Event) (border : Border) (p : ℕ) (calls : List Event) → AreRising calls → AreOf p calls → HoldsInFront (IsBelow plan x border) calls
borders plan x border p calls rising one k l y z lt e f h =
    let same = one k y e ∙ sym (one l z f) in
    below_earlier plan x border y z same (at_lower y z same (rising k l y z lt e f)) h

up_to : (p : ℕ) (y z : Event) → IsLower y z → z.proc ≤ p → y.proc ≤ p
up_to p y z (inl lt) le = omega (arith, lt, le)
up_to p y z (inr h) le = let same = h.0 in omega (arith, same, le)

-- in process order
pub processes_rise : (xs : List CodeEvent) → AreRising (map event_of xs) → IsNonDecreasingBy (λ (y : CodeEvent). y.proc.number) xs
processes_rise xs rising i j d le lt = elim (cases_eq i j) [
  | inl same ↦ subst (λ k. (slice_index_or xs i d).proc.number ≤ (slice_index_or xs k d).proc.number) same (omega arith)
  | inr other ↦ up_to (slice_index_or xs j d).proc.number _ _ (rising i j _ _ (omega (arith, le, other)) (place_at xs i d (omega (arith, le, lt))) (place_at xs j d lt)) (omega arith)
]

abbrev nothing : CodeEvent
nothing = record { proc = record { number = 0 }; at = 0 }

-- the first calls are those of processes up to p
pub cut_upto : (p : ℕ) (xs : List CodeEvent) (n : ℕ) → IsPartitionPoint (λ (y : CodeEvent). leb y.proc.number p ≡ true) (λ (y : CodeEvent). leb y.proc.number p ≡ false) xs n →
    IsCut (λ z. z.proc ≤ p) (map event_of xs) n
cut_upto p xs n point = record {
  below = λ k z lt is. let at = stands_at xs k z nothing is in subst (λ (v : Event). v.proc ≤ p) at.1 (leb-true _ _ (point.0 k nothing (omega arith) lt));
  above = λ k z le is. let at = stands_at xs k z nothing is in subst (λ (v : Event). v.proc ≤ p → ⊥) at.1 (λ upto. let past = leb-false _ _ (point.1 k nothing le at.0) in omega (arith, upto, past));
}

-- the calls of a race are unordered
pub race_unordered : (plan : Plan) (x y : Event) (name : ℕ) → IsFound plan (NameRace x y name) → IsUnordered plan x y
race_unordered plan x y name (low, inl r) = r.unordered
race_unordered plan x y name (low, inr r) = turned plan y x r.unordered

proc_lower : (a b : Event) → a.proc ≢ b.proc → IsLower a b → a.proc < b.proc
proc_lower a b ne (inl lt) = lt
proc_lower a b ne (inr h) = absurd (ne h.0)

-- they are calls on the name, of two processes, one of which may change it
pub race_lower : (plan : Plan) (x y : Event) (name : ℕ) → IsFound plan (NameRace x y name) → x.proc < y.proc
race_lower plan x y name (low, inl r) = proc_lower x y r.others low
race_lower plan x y name (low, inr r) = proc_lower x y (λ e. r.others (sym e)) low

pub low_calls : (plan : Plan) (x y : Event) (name : ℕ) → IsFound plan (NameRace x y name) → calls_name plan name x (kind plan x) ≡ true
low_calls plan x y name (low, inl r) = writes_calls plan name x (kind plan x) r.x_writes
low_calls plan x y name (low, inr r) = r.y_calls

pub high_calls : (plan : Plan) (x y : Event) (name : ℕ) → IsFound plan (NameRace x y name) → calls_name plan name y (kind plan y) ≡ true
high_calls plan x y name (low, inl r) = r.y_calls
high_calls plan x y name (low, inr r) = writes_calls plan name y (kind plan y) r.x_writes

pub one_changes : (plan : Plan) (x y : Event) (name : ℕ) → IsFound plan (NameRace x y name) → (writes_name plan name x (kind plan x) ≡ true → ⊥) → writes_name plan name y (kind plan y) ≡ true
one_changes plan x y name (low, inl r) never = absurd (never r.x_writes)
one_changes plan x y name (low, inr r) never = r.x_writes

-- two calls stand in one of two orders
pub between : (x y : Event) (name : ℕ) (P : Finding → Type 0) → (x.proc < y.proc → P (NameRace x y name)) → (y.proc ≤ x.proc → P (NameRace y x name)) → P (race_between x y name)
between x y name P lower higher =
    cond_both (nat_lt x.proc y.proc) (NameRace x y name) (NameRace y x name) P (λ t. lower (ltb-true x.proc y.proc t)) (λ f. higher (ltb-false x.proc y.proc f))

pub between_lower : (x y : Event) (name : ℕ) → x.proc < y.proc → race_between x y name ≡ NameRace x y name
between_lower x y name lt = between x y name (λ f. f ≡ NameRace x y name) (λ _. refl) (λ le. absurd (omega (arith, lt, le)))

pub between_higher : (x y : Event) (name : ℕ) → y.proc < x.proc → race_between x y name ≡ NameRace y x name
between_higher x y name lt = between x y name (λ f. f ≡ NameRace y x name) (λ low. absurd (omega (arith, lt, low))) (λ _. refl)

pub between_rest : (x y : Event) (name : ℕ) → y.proc ≤ x.proc → race_between x y name ≡ NameRace y x name
between_rest x y name le = between x y name (λ f. f ≡ NameRace y x name) (λ low. absurd (omega (arith, le, low))) (λ _. refl)

pub unordered_between : (plan : Plan) (x y : Event) (name : ℕ) → IsFound plan (race_between x y name) → IsUnordered plan x y
unordered_between plan x y name = between x y name (λ f. IsFound plan f → IsUnordered plan x y)
    (λ _ r. race_unordered plan x y name r) (λ _ r. turned plan y x (race_unordered plan y x name r))

-- two calls that race are calls on the name, of two processes
pub between_calls : (plan : Plan) (x y : Event) (name : ℕ) → IsFound plan (race_between x y name) →
    (calls_name plan name x (kind plan x) ≡ true) × (calls_name plan name y (kind plan y) ≡ true)
between_calls plan x y name = between x y name (λ f. IsFound plan f → (calls_name plan name x (kind plan x) ≡ true) × (calls_name plan name y (kind plan y) ≡ true))
    (λ _ r. (low_calls plan x y name r, high_calls plan x y name r)) (λ _ r. (high_calls plan y x name r, low_calls plan y x name r))

-- where there is a call that races with x, x is a call on the name
pub racing_calls : (plan : Plan) (name : ℕ) (x : Event) (those : List CodeEvent) (k : ℕ) → k < length those → AllRace plan name x (map event_of those) →
    calls_name plan name x (kind plan x) ≡ true
racing_calls plan name x those k lt races = elim (slice_get_cases those k).1 [
  | inl at ↦ (between_calls plan x (event_of at.0) name (races k (event_of at.0) (slice_get-map event_of those k ∙ ap (option_map event_of) at.2))).0
  | inr past ↦ let ge = past.0 in absurd (omega (arith, ge, lt))
]

pub between_others : (plan : Plan) (x y : Event) (name : ℕ) → IsFound plan (race_between x y name) → x.proc ≢ y.proc
between_others plan x y name = between x y name (λ f. IsFound plan f → x.proc ≢ y.proc)
    (λ _ r same. let lt = race_lower plan x y name r in omega (arith, lt, same)) (λ _ r same. let lt = race_lower plan y x name r in omega (arith, lt, same))

-- no chain orders x with the calls between the borders, and with no others
module _ (plan : Plan) (x : Event) (calls : List Event) (from to : ℕ) (live : Live plan x)
    (first : IsCut (IsBelow plan x FirstNotBefore) calls from) (last : IsCut (IsBelow plan x FirstAfter) calls to) where
  unordered_at : (j : ℕ) (z : Event) → slice_get calls j ≡ Some z → from ≤ j → j < to → IsUnordered plan x z
  unordered_at j z at ge lt = let h = last.below j z lt at in record { live_x = live; live_y = h.0; not_before = h.1; not_after = first.above j z ge at }

  past_first : (j : ℕ) (z : Event) → slice_get calls j ≡ Some z → IsUnordered plan x z → from ≤ j
  past_first j z at u = elim (cases_lt j from) [ inl lt ↦ absurd (u.not_after (first.below j z lt at)) | inr ge ↦ ge ]

  below_last : (j : ℕ) (z : Event) → slice_get calls j ≡ Some z → IsUnordered plan x z → j < to
  below_last j z at u = elim (cases_lt j to) [ inl lt ↦ lt | inr le ↦ absurd (last.above j z le at (u.live_y, u.not_before)) ]

  pub none_between : to ≤ from → AreThoseUnordered plan x calls []
  none_between le z = (
    (λ i. absurd i),
    (λ h.
        let w = in_index calls z h.0 in
        let ge = past_first w.0 z w.1 h.1 in
        let lt = below_last w.0 z w.1 h.1 in
        absurd (omega (arith, le, ge, lt))),
  )

  pub those_between : (front those rest : List Event) → calls ≡ (front ++ those) ++ rest → length front ≡ from → length those + from ≡ to → AreThoseUnordered plan x calls those
  those_between front those rest parts low high z = (
    (λ i.
        let w = in_index those z i in
        let at = subst (λ l. slice_get l (length front + w.0) ≡ Some z) (sym parts) (slice_get-append_kept (front ++ those) rest (length front + w.0) z (get_right front those w.0 z w.1)) in
        let lt = slice_get_within those w.0 z w.1 in
        (index_in calls z (length front + w.0) at, unordered_at (length front + w.0) z at (omega (arith, low)) (omega (arith, low, high, lt)))),
    (λ h. elim (in_parts (front ++ those) rest z (subst (IsIn z) parts h.0)) [
      | inl near ↦ elim (in_parts front those z near) [
        | inl early ↦
            let w = in_index front z early in
            let ge = past_first w.0 z (subst (λ l. slice_get l w.0 ≡ Some z) (sym parts) (slice_get-append_kept (front ++ those) rest w.0 z (slice_get-append_kept front those w.0 z w.1))) h.1 in
            let lt = slice_get_within front w.0 z w.1 in
            absurd (omega (arith, ge, lt, low))
        | inr here ↦ here
      ]
      | inr late ↦
          let w = in_index rest z late in
          let k = length (front ++ those) + w.0 in
          let lt = below_last k z (subst (λ l. slice_get l k ≡ Some z) (sym parts) (get_right (front ++ those) rest w.0 z w.1)) h.1 in
          let size = length-append front those in
          absurd (omega (arith, lt, low, high, size))
    ]),
  )

-- those of the rivals of x that no chain orders with it race with it, and no others
module _ (plan : Plan) (name : ℕ) (x : Event) (calls those : List Event) (are : AreThoseUnordered plan x calls those) where
  module _ (on_name : calls_name plan name x (kind plan x) ≡ true) (rivals : AreRivals plan name x calls) where
    one_of_them : (j : ℕ) (z : Event) → slice_get calls j ≡ Some z → IsUnordered plan x z → IsNameRace plan x z name ⊎ IsNameRace plan z x name
    one_of_them j z at u = elim (rivals.change j z at) [
      | inl writes ↦ inl (record {
        x_writes = writes;
        y_calls = rivals.calls_on.each j z at;
        others = rivals.others j z at;
        not_once = λ once waits. u.not_before (edge u.live_x (Announces name waits once) u.live_y);
        unordered = u;
      })
      | inr writes ↦ inr (record {
        x_writes = writes;
        y_calls = on_name;
        others = λ e. rivals.others j z at (sym e);
        not_once = λ once waits. u.not_after (edge u.live_y (Announces name waits once) u.live_x);
        unordered = turned plan x z u;
      })
    ]

    is_race : (j : ℕ) (z : Event) → slice_get calls j ≡ Some z → IsUnordered plan x z → IsFound plan (race_between x z name)
    is_race j z at u =
        let others = rivals.others j z at in
        let race = one_of_them j z at u in
        between x z name (IsFound plan) (λ low. (inl low, race)) (λ le. (inl (omega (arith, le, others)), ⊎_elim (λ r. inr r) (λ r. inl r) race))

    pub all_race : AllRace plan name x those
    all_race k z at =
        let h = (are z).0 (index_in those z k at) in
        let w = in_index calls z h.0 in
        is_race w.0 z w.1 h.1

  pub with_all : (f : Finding) → IsNameRaceWith plan name x those f → IsNameRaceWith plan name x calls f
  with_all f r = record { y = r.y; there = ((are r.y).0 r.there).0; is = r.is; found = r.found }

  pub with_those : (f : Finding) → IsNameRaceWith plan name x calls f → IsNameRaceWith plan name x those f
  with_those f r = record { y = r.y; there = (are r.y).1 (r.there, unordered_between plan x r.y name (subst (IsFound plan) r.is r.found)); is = r.is; found = r.found }

-- rivals in two parts
pub first_rivals : (plan : Plan) (name : ℕ) (x : Event) (xs ys : List Event) → AreRivals plan name x (xs ++ ys) → AreRivals plan name x xs
first_rivals plan name x xs ys are = record {
  calls_on = first_calls plan name xs ys are.calls_on;
  others = λ k z e. are.others k z (slice_get-append_kept xs ys k z e);
  change = λ k z e. are.change k z (slice_get-append_kept xs ys k z e);
}

pub other_rivals : (plan : Plan) (name : ℕ) (x : Event) (xs ys : List Event) → AreRivals plan name x (xs ++ ys) → AreRivals plan name x ys
other_rivals plan name x xs ys are = record {
  calls_on = other_calls plan name xs ys are.calls_on;
  others = λ k z e. are.others _ z (get_right xs ys k z e);
  change = λ k z e. are.change _ z (get_right xs ys k z e);
}

-- a list of one call has no other
pub only_one : (x v : Event) → IsIn v (x ∷ []) → v ≡ x
only_one x v (inl e) = e
only_one x v (inr i) = absurd i

-- what is found, and the races of x with these calls, is what was found before and the races of x with all rivals
abbrev pub IsLeft : Plan → ℕ → Event → List Told → List Told → List Event → List Event → Type 0
IsLeft plan name x old now all rest = (f : Finding) → (TellsFinding plan now f ⊎ IsNameRaceWith plan name x rest f) ↔ (TellsFinding plan old f ⊎ IsNameRaceWith plan name x all f)

with_first : (plan : Plan) (name : ℕ) (x : Event) (xs ys : List Event) (f : Finding) → IsNameRaceWith plan name x xs f → IsNameRaceWith plan name x (xs ++ ys) f
with_first plan name x xs ys f r = record { y = r.y; there = in_left xs ys r.y r.there; is = r.is; found = r.found }

with_other : (plan : Plan) (name : ℕ) (x : Event) (xs ys : List Event) (f : Finding) → IsNameRaceWith plan name x ys f → IsNameRaceWith plan name x (xs ++ ys) f
with_other plan name x xs ys f r = record { y = r.y; there = in_right xs ys r.y r.there; is = r.is; found = r.found }

with_either : (plan : Plan) (name : ℕ) (x : Event) (xs ys : List Event) (f : Finding) → IsNameRaceWith plan name x (xs ++ ys) f → IsNameRaceWith plan name x xs f ⊎ IsNameRaceWith plan name x ys f
with_either plan name x xs ys f r = elim (in_parts xs ys r.y r.there) [
  | inl i ↦ inl (record { y = r.y; there = i; is = r.is; found = r.found })
  | inr i ↦ inr (record { y = r.y; there = i; is = r.is; found = r.found })
]

-- the race with one call more
pub one_more_race : (plan : Plan) (name : ℕ) (x : Event) (done : List Event) (y : Event) (old now new : List Told) → AddsFindings plan old now (IsNameRaceWith plan name x done) →
    IsFound plan (race_between x y name) → IsFindingAdded plan now new (race_between x y name) → AddsFindings plan old new (IsNameRaceWith plan name x (done ++ y ∷ []))
one_more_race plan name x done y old now new a race told =
    adds_both plan old now new (IsNameRaceWith plan name x done) (λ f. f ≡ race_between x y name) (IsNameRaceWith plan name x (done ++ y ∷ []))
    (with_first plan name x done (y ∷ []))
    (λ f e. record { y = y; there = in_right done (y ∷ []) y (inl refl); is = e; found = subst (IsFound plan) (sym e) race })
    (λ f r. elim (in_parts done (y ∷ []) r.y r.there) [
      | inl i ↦ inl (record { y = r.y; there = i; is = r.is; found = r.found })
      | inr i ↦ inr (r.is ∙ ap (λ v. race_between x v name) (only_one y r.y i))
    ])
    a (adds_one plan now new (λ f. f ≡ race_between x y name) (race_between x y name) a.found race told refl (λ f e. e))

pub less_left : (plan : Plan) (name : ℕ) (x : Event) (old now new : List Told) (all xs ys : List Event) → IsLeft plan name x old now all (xs ++ ys) → AddsFindings plan now new (IsNameRaceWith plan name x xs) →
    IsLeft plan name x old new all ys
less_left plan name x old now new all xs ys left a f = (
  (λ s. elim s [
    | inl h ↦ elim (a.only f h) [ inl was ↦ (left f).0 (inl was) | inr r ↦ (left f).0 (inr (with_first plan name x xs ys f r)) ]
    | inr r ↦ (left f).0 (inr (with_other plan name x xs ys f r))
  ]),
  (λ s. elim ((left f).1 s) [
    | inl was ↦ inl (a.kept f was)
    | inr r ↦ elim (with_either plan name x xs ys f r) [ inl here ↦ inl (a.all f here) | inr there ↦ inr there ]
  ]),
)

-- nothing is left
pub none_left : (plan : Plan) (name : ℕ) (x : Event) (old now : List Told) (all : List Event) → AreFound plan now → IsLeft plan name x old now all [] → AddsFindings plan old now (IsNameRaceWith plan name x all)
none_left plan name x old now all found left = record {
  found = found;
  kept = λ f h. elim ((left f).1 (inl h)) [ inl i ↦ i | inr r ↦ absurd r.there ];
  all = λ f r. elim ((left f).1 (inr r)) [ inl i ↦ i | inr none ↦ absurd none.there ];
  only = λ f h. (left f).0 (inl h);
}

-- the races of x with all its rivals are those with any higher call on the name alone
pub from_with : (plan : Plan) (name : ℕ) (x : Event) (calls : List Event) → AreHigher plan name x calls → (f : Finding) → IsNameRaceWith plan name x calls f → IsRaceFrom plan name x f
from_with plan name x calls higher f r =
    let w = in_index calls r.y r.there in
    let h = higher w.0 r.y w.1 in
    record { y = r.y; is = r.is ∙ between_lower x r.y name h.0; found = r.found; plain = h.1 }

pub with_from : (plan : Plan) (name : ℕ) (x : Event) (calls : List Event) → HasRivals plan name x calls → (f : Finding) → IsRaceFrom plan name x f → IsNameRaceWith plan name x calls f
with_from plan name x calls all f r =
    let found = subst (IsFound plan) r.is r.found in
    record { y = r.y; there = all r.y r.plain found; is = r.is ∙ sym (between_lower x r.y name (race_lower plan x r.y name found)); found = r.found }

pub from_live : (plan : Plan) (name : ℕ) (x : Event) (f : Finding) → IsRaceFrom plan name x f → Live plan x
from_live plan name x f r = (race_unordered plan x r.y name (subst (IsFound plan) r.is r.found)).live_x

-- a call on one name is a call on it
pub plain_calls : (plan : Plan) (name : ℕ) (x : Event) (o : Option Kind) → is_plain_call name o ≡ true → calls_name plan name x o ≡ true
plain_calls plan name x (Some (Publish n)) h = h
plain_calls plan name x (Some (Lookup n)) h = h
plain_calls plan name x (Some (LookupWait n)) h = h
plain_calls plan name x (Some (Unpublish n)) h = h
plain_calls plan name x _ h = absurd (true≢false (sym h))

pub plain_here : (plan : Plan) (name : ℕ) (z : Event) → is_plain_call name (kind plan z) ≡ true → calls_name plan name z (kind plan z) ≡ true
plain_here plan name z h = plain_calls plan name z (kind plan z) h

pub plain_there : (plan : Plan) (name : ℕ) (z : Event) → is_plain_call name (kind plan z) ≡ true → z.at < event_count plan z.proc
plain_there plan name z h = starts_within plan z (starts_named plan name z (plain_here plan name z h))

-- and the other calls on it take away all names
pub plain_or_not : (plan : Plan) (name : ℕ) (x : Event) (o : Option Kind) → calls_name plan name x o ≡ true → (is_plain_call name o ≡ true) ⊎ (o ≡ Some UnpublishAll)
plain_or_not plan name x (Some (Publish n)) h = inl h
plain_or_not plan name x (Some (Lookup n)) h = inl h
plain_or_not plan name x (Some (LookupWait n)) h = inl h
plain_or_not plan name x (Some (Unpublish n)) h = inl h
plain_or_not plan name x (Some UnpublishAll) h = inr refl
plain_or_not plan name x _ h = absurd (true≢false (sym h))

-- a race on the name is of one of the calls on it
pub caller_in : (plan : Plan) (name : ℕ) (all : List Event) → AreNameCalls plan name all → (y : Event) → is_plain_call name (kind plan y) ≡ true → IsIn y all
caller_in plan name all are y calls = let w = are.all y calls in index_in all y w.0 w.1

pub on_name : (plan : Plan) (name : ℕ) (f : Finding) → IsRaceOn plan name f → IsOfName f
on_name plan name f r = (r.x, r.y, name, r.is)

-- each race on a name is of one call at least on this name alone, or of two sweeps
pub race_on : (plan : Plan) (f : Finding) → IsOfName f → IsFound plan f → ((name : ℕ) × IsRaceOn plan name f) ⊎ IsSweepRace plan f
race_on plan f on found =
    let x = on.0 in
    let y = on.1 in
    let name = on.2 in
    let race = subst (IsFound plan) on.3 found in
    elim (plain_or_not plan name x (kind plan x) (low_calls plan x y name race)) [
      | inl plain ↦ inl (name, record { x = x; y = y; is = on.3; found = found; plain = inl plain })
      | inr sweeps ↦ elim (plain_or_not plan name y (kind plan y) (high_calls plan x y name race)) [
        | inl plain ↦ inl (name, record { x = x; y = y; is = on.3; found = found; plain = inr plain })
        | inr too ↦ inr (x.proc, record { x = x; y = y; name = name; is = on.3; found = found; of_it = refl; sweeps_x = sweeps; sweeps_y = too })
      ]
    ]

-- a race of one of these calls with a higher one
abbrev pub IsRaceAmong : Plan → ℕ → List Event → Finding → Type 0
IsRaceAmong plan name done f = (v : Event) × IsIn v done × IsRaceFrom plan name v f

-- the races of one call more
pub with_more : (plan : Plan) (name : ℕ) (done : List Event) (x : Event) (old now new : List Told)
    → AddsFindings plan old now (IsRaceAmong plan name done) → AddsFindings plan now new (IsRaceFrom plan name x) → AddsFindings plan old new (IsRaceAmong plan name (done ++ x ∷ []))
with_more plan name done x old now new =
    adds_both plan old now new (IsRaceAmong plan name done) (IsRaceFrom plan name x) (IsRaceAmong plan name (done ++ x ∷ []))
    (λ f r. (r.0, in_left done (x ∷ []) r.0 r.1, r.2))
    (λ f r. (x, in_right done (x ∷ []) x (inl refl), r))
    (λ f r. elim (in_parts done (x ∷ []) r.0 r.1) [
      | inl i ↦ inl (r.0, i, r.2)
      | inr i ↦ inr (subst (λ v. IsRaceFrom plan name v f) (only_one x r.0 i) r.2)
    ])

-- all calls on the name alone
pub among_on : (plan : Plan) (name : ℕ) (all : List Event) → AreNameCalls plan name all → (f : Finding) → IsRaceAmong plan name all f → IsPlainRaceOn plan name f
among_on plan name all are f r =
    let w = in_index all r.0 r.1 in
    record { x = r.0; y = r.2.y; is = r.2.is; found = r.2.found; plain_x = are.only w.0 r.0 w.1; plain_y = r.2.plain }

pub on_among : (plan : Plan) (name : ℕ) (all : List Event) → AreNameCalls plan name all → (f : Finding) → IsPlainRaceOn plan name f → IsRaceAmong plan name all f
on_among plan name all are f r = (r.x, caller_in plan name all are r.x r.plain_x, record { y = r.y; is = r.is; found = r.found; plain = r.plain_y })
