-- Who arrives at each fence, as the events are looked at one after the other.
use Rattle.std.proofs.Common.{◌≡◌, ◌∙◌, ap, sym, refl, subst, ℕ, zero, suc, ◌<◌, List, [], ◌∷◌, ◌++◌, length, map, Bool, ◌==◌, Some, None, arith, ◌⊎◌, inl, inr, get_or, set}
use Rattle.std.proofs.lemmas.Bool.{cases_eq, eq-eqb, ne_eqb, cond-true, cond-false, true≢false}
use Rattle.std.specs.Prelude.{slice_get, option_map, true, false, if◌then◌else◌}
use Rattle.std.proofs.lemmas.Option.{slice_get-map, get_or_from_slice_get, same_Some, none-some}
use Rattle.std.proofs.lemmas.List.{map-append, map-set, length-map, get_or-set_same, get_or-set_other}
use Rattle.wire_runs.specs.Plan.{Plan, Kind, Arrive, Leave, Event, kind, kind_at, event_count, process_count, event_of}
use Rattle.wire_runs.specs.Fences.{arrivals, arrivals_with, is_full}
use Rattle.wire_types.specs.declared.Event.{Event as CodeEvent}
use Rattle.wire_scripts.specs.Scripts.{Scripts, set_at}
use Rattle.wire_scripts.specs.Planned.{plan_of}
use Rattle.wire_fence.specs.FenceTable.{FenceInfo, FenceTable, AreFencesOf, fence_at, full_in}
use Rattle.wire_plan.specs.declared.kind.Kind.{Kind as CodeKind}
use Rattle.wire_plan.specs.declared.kind.Kind.TheVariants as code
use Rattle.wire_plan.specs.Kinds.{kind_of}
use Rattle.wire_runs.specs.Order.{IsArrival}
use Rattle.wire_runs.specs.EventLists.{IsLower, AreAll}
use Rattle.wire_plan.specs.Index.{AreArrivals}
use Rattle.wire_plan.specs.Meetings.{fence_members, IsMet, arrivals_in, AreArrivalLists, AreArrivalListsTo, IsArrivalAdded}
use Rattle.wire_runs.proofs.Basics.{event_within, process_within}
use Rattle.wire_runs.proofs.EventLists.{all_of_none, all_same, all_and_one}
use Rattle.wire_fence.proofs.Events.{same_fence}

-- the place of an event by its two numbers
abbrev here : ℕ → ℕ → Event
here p at = record { proc = p; at = at }

-- what the list of a fence shows
pub list_shown : {V : Type 0} (view : V → List CodeEvent) (lists : List V) (number : ℕ) (list : V) → slice_get lists number ≡ Some list → arrivals_in (map view lists) number ≡ map event_of (view list)
list_shown view lists number list is =
    ap (map event_of) (get_or_from_slice_get (map view lists) number (view list) [] (slice_get-map view lists number ∙ ap (option_map view) is))

pub list_past : {V : Type 0} (view : V → List CodeEvent) (lists : List V) (number : ℕ) → slice_get lists number ≡ None → arrivals_in (map view lists) number ≡ []
list_past view [] number is = refl
list_past view (x ∷ lists) zero is = absurd (none-some x (sym is))
list_past view (x ∷ lists) (suc number) is = list_past view lists number is

-- an empty list more tells nothing more
pub room_same : (lists : List (List CodeEvent)) (n : ℕ) → arrivals_in (lists ++ [] ∷ []) n ≡ arrivals_in lists n
room_same lists n = ap (map event_of) (go lists n)
  where
    go : (xs : List (List CodeEvent)) (n : ℕ) → get_or (xs ++ [] ∷ []) n [] ≡ get_or xs n []
    go [] zero = refl
    go [] (suc n) = refl
    go (x ∷ xs) zero = refl
    go (x ∷ xs) (suc n) = go xs n

pub added : (lists : List (List CodeEvent)) (number : ℕ) (e : CodeEvent) → number < length lists → IsArrivalAdded number e lists (set lists number (get_or lists number [] ++ e ∷ []))
added lists number e there n = elim (cases_eq n number) [
  | inl same ↦
      ap (λ k. arrivals_in (set lists number (get_or lists number [] ++ e ∷ [])) k) same
      ∙ ap (map event_of) (get_or-set_same lists number (get_or lists number [] ++ e ∷ []) [] there)
      ∙ map-append event_of (get_or lists number []) (e ∷ [])
      ∙ ap (λ k. arrivals_in lists k ++ event_of e ∷ []) (sym same)
      ∙ sym (cond-true (n == number) (arrivals_in lists n ++ event_of e ∷ []) (arrivals_in lists n) (eq-eqb n number same))
  | inr other ↦
      ap (map event_of) (get_or-set_other lists number n (get_or lists number [] ++ e ∷ []) [] other)
      ∙ sym (cond-false (n == number) (arrivals_in lists n ++ event_of e ∷ []) (arrivals_in lists n) (ne_eqb n number other))
]

-- nothing stands before the first event of the first process
pub nobody_yet : (s : Scripts) (table : FenceTable) → AreArrivalListsTo s table 0 0 []
nobody_yet s table number info there = all_of_none (λ z. IsArrival (plan_of s) info.members info.nth z × IsLower z (here 0 0)) (λ z h. elim h.1 [
  | inl lt ↦ omega (arith, lt)
  | inr at ↦ let lt = at.1 in omega (arith, lt)
])

lower_more : (p at : ℕ) (z : Event) → IsLower z (here p at) → IsLower z (here p (suc at))
lower_more p at z h = elim h [ inl lt ↦ inl lt | inr same ↦ let lt = same.1 in inr (same.0, omega (arith, lt)) ]

lower_less : (p at : ℕ) (z : Event) → IsLower z (here p (suc at)) → IsLower z (here p at) ⊎ (here p at ≡ z)
lower_less p at z h = elim h [
  | inl lt ↦ inl (inl lt)
  | inr same ↦ elim (cases_eq z.at at) [
    | inl is ↦ inr (λ t. record { proc = sym same.0 t; at = sym is t })
    | inr other ↦ let lt = same.1 in inl (inr (same.0, omega (arith, lt, other)))
  ]
]

-- an event that is no arrival at a fence leaves its list as it is
other_event : (plan : Plan) (members : List ℕ) (j p at : ℕ) (places : List Event) → (IsArrival plan members j (here p at) → ⊥) →
    AreAll (λ z. IsArrival plan members j z × IsLower z (here p at)) places → AreAll (λ z. IsArrival plan members j z × IsLower z (here p (suc at))) places
other_event plan members j p at places never are =
    all_same (λ z. IsArrival plan members j z × IsLower z (here p at)) (λ z. IsArrival plan members j z × IsLower z (here p (suc at))) places
    (λ z h. (h.0, lower_more p at z h.1))
    (λ z h. elim (lower_less p at z h.1) [
      | inl lower ↦ (h.0, lower)
      | inr same ↦ absurd (never (subst (IsArrival plan members j) (sym same) h.0))
    ])
    are

-- so does one that is no arrival at all
pub no_arrival : (s : Scripts) (table : FenceTable) (p at : ℕ) (lists : List (List CodeEvent)) → ((members : List ℕ) (collect : Bool) → kind_at (plan_of s) p at ≡ Some (Arrive members collect) → ⊥) →
    AreArrivalListsTo s table p at lists → AreArrivalListsTo s table p (suc at) lists
no_arrival s table p at lists never are number info there = other_event (plan_of s) info.members info.nth p at (arrivals_in lists number) (λ a. never info.members a.collect a.is)
    (are number info there)

-- the arrival that an event of the plan is
arrival_met : (s : Scripts) (table : FenceTable) (p at number : ℕ) (members : List ℕ) (collect : Bool) → kind_at (plan_of s) p at ≡ Some (Arrive members collect) →
    (m : IsMet s table (here p at) number) → IsArrival (plan_of s) m.fence.members m.fence.nth (here p at)
arrival_met s table p at number members collect is m = record {
  collect = collect;
  is = is ∙ ap (λ ms. Some (Arrive ms collect)) (sym (m.members ∙ ap fence_members is));
  member = m.member;
  nth = m.nth;
}

-- an arrival stands last in the list of its fence
pub one_arrival : (s : Scripts) (table : FenceTable) (e : CodeEvent) (number : ℕ) (lists new : List (List CodeEvent)) (members : List ℕ) (collect : Bool) → AreFencesOf s table →
    kind_at (plan_of s) e.proc.number e.at ≡ Some (Arrive members collect) → IsMet s table (event_of e) number → IsArrivalAdded number e lists new → AreArrivalListsTo s table e.proc.number e.at lists →
    AreArrivalListsTo s table e.proc.number (suc e.at) new
one_arrival s table e number lists new members collect fences is m told are n info there =
    let p = e.proc.number in
    let at = e.at in
    let plan = plan_of s in
    elim (cases_eq n number) [
      | inl same ↦
          let fence : m.fence ≡ info = same_Some _ _ (sym m.there ∙ ap (fence_at table) (sym same) ∙ there) in
          let arrives : IsArrival plan info.members info.nth (here p at) = subst (λ (f : FenceInfo). IsArrival plan f.members f.nth (here p at)) fence
          (arrival_met s table p at number members collect is m) in
          let list : arrivals_in new n ≡ arrivals_in lists n ++ here p at ∷ [] = told n
          ∙ cond-true (n == number) (arrivals_in lists n ++ here p at ∷ []) (arrivals_in lists n) (eq-eqb n number same) in
          subst (AreAll (λ z. IsArrival plan info.members info.nth z × IsLower z (here p (suc at)))) (sym list) (
          all_and_one (λ z. IsArrival plan info.members info.nth z × IsLower z (here p at)) (λ z. IsArrival plan info.members info.nth z × IsLower z (here p (suc at))) (arrivals_in lists n)
          (here p at)
          (λ z h. h.1)
          (λ z h. (h.0, lower_more p at z h.1))
          (arrives, inr (refl, omega arith))
          (λ z h. elim (lower_less p at z h.1) [ inl lower ↦ inl (h.0, lower) | inr is_it ↦ inr is_it ])
          (are n info there)
          )
      | inr other ↦
          let list : arrivals_in new n ≡ arrivals_in lists n = told n ∙ cond-false (n == number) (arrivals_in lists n ++ here p at ∷ []) (arrivals_in lists n) (ne_eqb n number other) in
          subst (AreAll (λ z. IsArrival plan info.members info.nth z × IsLower z (here p (suc at)))) (sym list) (
          other_event plan info.members info.nth p at (arrivals_in lists n) (λ a. other (
          let its : m.fence.members ≡ info.members = m.members ∙ ap fence_members a.is in
          let nth : info.nth ≡ m.fence.nth = sym a.nth ∙ ap (λ ms. arrivals plan p ms (suc at)) (sym its) ∙ m.nth in
          same_fence s table n number info m.fence fences there m.there (sym its) nth
          )) (are n info there)
          )
    ]

-- after the last event of a process comes the first of the next one
pub process_done : (s : Scripts) (table : FenceTable) (p : ℕ) (lists : List (List CodeEvent)) → AreArrivalListsTo s table p (event_count (plan_of s) p) lists →
    AreArrivalListsTo s table (suc p) 0 lists
process_done s table p lists are number info there =
    let plan = plan_of s in
    all_same (λ z. IsArrival plan info.members info.nth z × IsLower z (here p (event_count plan p))) (λ z. IsArrival plan info.members info.nth z × IsLower z (here (suc p) 0))
    (arrivals_in lists number)
    (λ z h. (h.0, elim h.1 [ inl lt ↦ inl (omega (arith, lt)) | inr same ↦ let is = same.0 in inl (omega (arith, is)) ]))
    (λ z h. (
      h.0,
      elim h.1 [
        | inl lt ↦ elim (cases_eq z.proc p) [
          | inl is ↦ inr (is, subst (λ q. z.at < event_count plan q) is (event_within plan z.proc z.at (Arrive info.members h.0.collect) h.0.is))
          | inr other ↦ inl (omega (arith, lt, other))
        ]
        | inr same ↦ let lt = same.1 in absurd (omega (arith, lt))
      ],
    ))
    (are number info there)

-- after the last process all are there
pub all_done : (s : Scripts) (table : FenceTable) (lists : List (List CodeEvent)) → AreArrivalListsTo s table (process_count (plan_of s)) 0 lists → AreArrivalLists s table lists
all_done s table lists are number info there =
    let plan = plan_of s in
    all_same (λ z. IsArrival plan info.members info.nth z × IsLower z (here (process_count plan) 0)) (IsArrival plan info.members info.nth) (arrivals_in lists number)
    (λ z h. h.0)
    (λ z h. (h, inl (process_within plan z.proc z.at (Arrive info.members h.collect) h.is)))
    (are number info there)

-- the fence that ends at an event, by its members and its number
module _ (s : Scripts) (table : FenceTable) (e : CodeEvent) (number : ℕ) (m : IsMet s table (event_of e) number) (members : List ℕ) (is : kind (plan_of s) (event_of e) ≡ Some (Leave members)) where
  its_members : m.fence.members ≡ members
  its_members = m.members ∙ ap fence_members is

  its_nth : m.fence.nth ≡ arrivals (plan_of s) e.proc.number members e.at
  its_nth =
      sym m.nth
      ∙ ap (λ ms. arrivals (plan_of s) e.proc.number ms (suc e.at)) its_members
      ∙ ap (arrivals_with members (arrivals (plan_of s) e.proc.number members e.at)) is

  -- those who arrive there
  pub arrivals_met : (places : List Event) → AreArrivals (plan_of s) m.fence.members m.fence.nth places → AreArrivals (plan_of s) members (arrivals (plan_of s) e.proc.number members e.at) places
  arrivals_met places are = subst (λ j. AreArrivals (plan_of s) members j places) its_nth (subst (λ ms. AreArrivals (plan_of s) ms m.fence.nth places) its_members are)

  -- whether all members call it
  pub full_met : AreFencesOf s table → full_in (fence_at table number) ≡ is_full (plan_of s) members (arrivals (plan_of s) e.proc.number members e.at)
  full_met fences =
      let over = (fences.each number m.fence m.there).is in
      let its_set : set_at s.sets m.fence.set ≡ m.fence.members = sym (ap (λ f. f.members) over) in
      ap full_in m.there
      ∙ ap (λ f. f.full) over
      ∙ ap (λ ms. is_full (plan_of s) ms m.fence.nth) (its_set ∙ its_members)
      ∙ ap (is_full (plan_of s) members) its_nth

-- one event more in the list of a fence, once there is room
pub added_shown : {V : Type 0} (view : V → List CodeEvent) (old room : List V) (number : ℕ) (v new : V) (e : CodeEvent) → number < length room → slice_get room number ≡ Some v → view new ≡ view v
    ++ e ∷ [] → ((n : ℕ) → arrivals_in (map view room) n ≡ arrivals_in (map view old) n) → IsArrivalAdded number e (map view old) (map view (set room number new))
added_shown view old room number v new e there is more same n =
    let lists = map view room in
    let list : get_or lists number [] ≡ view v = get_or_from_slice_get lists number (view v) [] (slice_get-map view room number ∙ ap (option_map view) is) in
    let within : number < length lists = subst (λ k. number < k) (sym (length-map room view)) there in
    ap (λ ls. arrivals_in ls n) (map-set view room number new ∙ ap (set lists number) (more ∙ ap (λ l. l ++ e ∷ []) (sym list)))
    ∙ added lists number e within n
    ∙ ap (λ ps. if n == number then ps ++ event_of e ∷ [] else ps) (same n)

abbrev pub is_arrive : Kind → Bool
is_arrive (Arrive members collect) = true
is_arrive _ = false

-- an event of another kind is no arrival
pub other_kind : (sets : List (List ℕ)) (k : CodeKind) → ((members : ℕ) (collect : Bool) → k ≡ code.Arrive members collect → ⊥) → (members : List ℕ) (collect : Bool) →
    kind_of sets k ≡ Arrive members collect → ⊥
other_kind sets (code.Arrive set collect) never members says is = never set collect refl
other_kind sets (code.Put scope key) never members says is = true≢false (sym (ap is_arrive is))
other_kind sets code.Commit never members says is = true≢false (sym (ap is_arrive is))
other_kind sets (code.Leave set) never members says is = true≢false (sym (ap is_arrive is))
other_kind sets (code.Get owner key) never members says is = true≢false (sym (ap is_arrive is))
other_kind sets (code.GetNow owner key) never members says is = true≢false (sym (ap is_arrive is))
other_kind sets (code.Publish name) never members says is = true≢false (sym (ap is_arrive is))
other_kind sets (code.Lookup name) never members says is = true≢false (sym (ap is_arrive is))
other_kind sets (code.LookupWait name) never members says is = true≢false (sym (ap is_arrive is))
other_kind sets (code.Unpublish name) never members says is = true≢false (sym (ap is_arrive is))
other_kind sets code.UnpublishAll never members says is = true≢false (sym (ap is_arrive is))
other_kind sets (code.Fixed reply) never members says is = true≢false (sym (ap is_arrive is))
