-- The arrivals that bring data, as the events are looked at one after the other, and the first of them from an event on.
use Rattle.std.proofs.Common.{refl, Bool, false, ◌||◌}
use Rattle.std.proofs.Common.{◌≡◌, ◌≢◌, ◌∙◌, ap, sym, subst, ℕ, zero, suc, ◌+◌, ◌<◌, ◌≤◌, List, [], ◌∷◌, ◌++◌, length, map, true, ◌==◌, Some, None, arith, inl, inr, get_or, nat_lt, cond, ◌&&◌}
use Rattle.std.specs.Prelude.{slice_get, option_map}
use Rattle.std.specs.List.Sorted.{IsPartitionedBy}
use Rattle.std.proofs.lemmas.Bool.{true≢false, cases_lt, cases_eq, eq-eqb, eqb-true, lt-ltb, le-ltb, ltb-true, and_parts, and_from, or_cases, or_left, or_right}
use Rattle.std.specs.declared.cmp.Ordering.TheVariants.{Less, Equal, Greater}
use Rattle.std.specs.Ordering.{nat_cmp, is_lt, is_some_and, partial_ordering_then}
use Rattle.std.proofs.lemmas.List.{map-append}
use Rattle.std.proofs.lemmas.Option.{slice_get-get_or, slice_get-map, slice_get_within, same_Some, none-some}
use Rattle.wire_runs.specs.Plan.{Plan, Event, event_of, event_count, process_count}
use Rattle.wire_runs.specs.EventLists.{IsLower, AreAll}
use Rattle.wire_types.specs.declared.Event.{Event as CodeEvent}
use Rattle.wire_plan.specs.Index.{BringsData}
use Rattle.wire_plan.specs.Bringing.{BringsTo, NoneInFront, IsFirstFrom, IsRising, is_below}
use Rattle.wire_runs.proofs.Basics.{event_within, process_within}
use Rattle.wire_plan.proofs.Grown.{place, Earlier, one_more, whole_process, whole_plan}

-- an event that brings data
pub arrival_added : (plan : Plan) (e : CodeEvent) (xs ys : List CodeEvent) → ys ≡ xs ++ e ∷ [] → BringsData plan (event_of e)
    → AreAll (Earlier (BringsData plan) e.proc.number e.at) (map event_of xs) → AreAll (Earlier (BringsData plan) e.proc.number (suc e.at)) (map event_of ys)
arrival_added plan e xs ys is brings are = subst (AreAll (Earlier (BringsData plan) e.proc.number (suc e.at))) (sym (ap (map event_of) is ∙ map-append event_of xs (e ∷ [])))
    (one_more (BringsData plan) e.proc.number e.at (map event_of xs) brings are)

-- after all events of a process, and of the plan
pub process_looked_at : (plan : Plan) (p n : ℕ) (xs : List Event) → event_count plan p ≤ n → AreAll (Earlier (BringsData plan) p n) xs → AreAll (Earlier (BringsData plan) (suc p) 0) xs
process_looked_at plan p n xs le are = whole_process (BringsData plan) p n xs (λ i b. let lt = event_within plan p i _ b.arrival.is in omega (arith, lt, le)) are

pub plan_looked_at : (plan : Plan) (n : ℕ) (xs : List Event) → process_count plan ≤ n → AreAll (Earlier (BringsData plan) n 0) xs → AreAll (BringsData plan) xs
plan_looked_at plan n xs le are = whole_plan (BringsData plan) n xs (λ x b. let lt = process_within plan x.proc x.at _ b.arrival.is in omega (arith, lt, le)) are

-- events are compared by process, then by place
less_first : (p q r s : Bool) → is_some_and is_lt (partial_ordering_then (Some (cond p Less (cond q Equal Greater))) (Some (cond r Less (cond s Equal Greater)))) ≡ (p || (q && r))
less_first true q r s = refl
less_first false true true s = refl
less_first false true false true = refl
less_first false true false false = refl
less_first false false r s = refl

pub less_below : (x y : CodeEvent) →
    is_some_and is_lt (partial_ordering_then (Some (nat_cmp x.proc.number y.proc.number)) (Some (nat_cmp x.at y.at))) ≡ is_below (event_of x) (event_of y)
less_below x y = less_first (nat_lt x.proc.number y.proc.number) (x.proc.number == y.proc.number) (nat_lt x.at y.at) (x.at == y.at)

-- what the test tells
pub below_lower : (x y : Event) → is_below x y ≡ true → IsLower x y
below_lower x y h = elim (or_cases (nat_lt x.proc y.proc) _ h) [
  | inl lt ↦ inl (ltb-true x.proc y.proc lt)
  | inr both ↦ let parts = and_parts (x.proc == y.proc) (nat_lt x.at y.at) both in inr (eqb-true x.proc y.proc parts.0, ltb-true x.at y.at parts.1)
]

pub lower_below : (x y : Event) → IsLower x y → is_below x y ≡ true
lower_below x y (inl lt) = or_left _ _ (lt-ltb x.proc y.proc lt)
lower_below x y (inr (e, lt)) = or_right (nat_lt x.proc y.proc) _ (and_from (x.proc == y.proc) (nat_lt x.at y.at) (eq-eqb x.proc y.proc e) (lt-ltb x.at y.at lt))

lower_trans : (x y z : Event) → IsLower x y → IsLower y z → IsLower x z
lower_trans x y z (inl a) (inl b) = inl (omega (arith, a, b))
lower_trans x y z (inl a) (inr (e, b)) = inl (omega (arith, a, e))
lower_trans x y z (inr (e, a)) (inl b) = inl (omega (arith, e, b))
lower_trans x y z (inr (e, a)) (inr (f, b)) = inr (e ∙ f, omega (arith, a, b))

pub shown : (xs : List CodeEvent) (k : ℕ) (d : CodeEvent) → k < length xs → slice_get (map event_of xs) k ≡ Some (event_of (get_or xs k d))
shown xs k d lt = slice_get-map event_of xs k ∙ ap (option_map event_of) (slice_get-get_or xs k d lt)

-- those that are lower than an event stand before the others
pub lower_first : (xs : List CodeEvent) (e : Event) → IsRising (map event_of xs) → IsPartitionedBy (λ (x : CodeEvent). is_below (event_of x) e) xs
lower_first xs e rising i j d le lt below = elim (cases_eq i j) [
  | inl same ↦ subst (λ k. is_below (event_of (get_or xs k d)) e ≡ true) (sym same) below
  | inr other ↦
      lower_below (event_of (get_or xs i d)) e
      (lower_trans (event_of (get_or xs i d)) (event_of (get_or xs j d)) e
      (rising i j (event_of (get_or xs i d)) (event_of (get_or xs j d)) (omega (arith, le, other)) (shown xs i d (omega (arith, le, lt))) (shown xs j d lt))
      (below_lower (event_of (get_or xs j d)) e below))
]

-- what stands at a place of a list of events
pub stands_at : (xs : List CodeEvent) (k : ℕ) (x : Event) (d : CodeEvent) → slice_get (map event_of xs) k ≡ Some x → (k < length xs) × (event_of (get_or xs k d) ≡ x)
stands_at [] k x d is = absurd (none-some x is)
stands_at (e ∷ xs) zero x d is = (omega arith, same_Some (event_of e) x is)
stands_at (e ∷ xs) (suc k) x d is = let more = stands_at xs k x d is in let lt = more.0 in (omega (arith, lt), more.1)

-- what is shown at a place of a list is there
pub there_at : (xs : List CodeEvent) (k : ℕ) (e : CodeEvent) → k < length xs → e ≡ get_or xs k e → slice_get (map event_of xs) k ≡ Some (event_of e)
there_at xs k e lt is = shown xs k e lt ∙ ap (λ x. Some (event_of x)) (sym is)

module _ (plan : Plan) (p node from : ℕ) (xs : List Event) (are : AreAll (BringsData plan) xs) (n : ℕ)
    (exactly : (k : ℕ) (x : Event) → slice_get xs k ≡ Some x → is_below x (place p from) ≡ nat_lt k n) where
  not_lower : (k : ℕ) (x : Event) → slice_get xs k ≡ Some x → n ≤ k → IsLower x (place p from) → ⊥
  not_lower k x is le low = true≢false (sym (lower_below x (place p from) low) ∙ exactly k x is ∙ le-ltb k n le)

  -- such an arrival isn't before the place
  pub none_at_first : NoneInFront plan p node from xs n
  none_at_first l x lt is a = elim (below_lower x (place p from) (exactly l x is ∙ lt-ltb l n lt)) [
    | inl low ↦ (let same = a.proc in absurd (omega (arith, low, same)))
    | inr low ↦ (let early = low.1 in let le = a.from_there in absurd (omega (arith, early, le)))
  ]

  -- nor is the next one, where it brings nothing to the node
  pub none_in_front : (k : ℕ) (x : Event) → slice_get xs k ≡ Some x → (BringsTo plan node x → ⊥) → NoneInFront plan p node from xs k → NoneInFront plan p node from xs (k + 1)
  none_in_front k x is never none l y lt there a = elim (cases_eq l k) [
    | inl same ↦ never (subst (BringsTo plan node) (same_Some y x (sym there ∙ ap (slice_get xs) same ∙ is)) a.brings)
    | inr ne ↦ none l y (omega (arith, lt, ne)) there a
  ]

  -- the event at the place is the first of them, where it is of the process and brings data to the node
  pub first_found : (k : ℕ) (e : CodeEvent) → n ≤ k → NoneInFront plan p node from xs k → slice_get xs k ≡ Some (event_of e) → e.proc.number ≡ p → BringsTo plan node (event_of e) →
      IsFirstFrom plan p node from (Some e)
  first_found k e above none is same brings = (
    record {
      proc = same;
      from_there = elim (cases_lt e.at from) [ inl lt ↦ absurd (not_lower k (event_of e) is above (inr (same, lt))) | inr ge ↦ ge ];
      brings = brings;
    },
    λ y a.
        let found = are.all y a.brings.brings in
        elim (cases_lt found.0 k) [
          | inl lt ↦ absurd (none found.0 y lt found.1 a)
          | inr ge ↦ elim (cases_eq k found.0) [
            | inl eq ↦
                (let one = same_Some (event_of e) y (sym is ∙ ap (slice_get xs) eq ∙ found.1) in
                let at = ap (λ (z : Event). z.at) one in
                omega (arith, at))
            | inr ne ↦ elim (are.rising k found.0 (event_of e) y (omega (arith, ge, ne)) is found.1) [
              | inl low ↦ (let one = a.proc in absurd (omega (arith, low, one, same)))
              | inr low ↦ (let early = low.1 in omega (arith, early))
            ]
          ]
        ],
  )

  -- else there is none
  pub none_of_process : (k : ℕ) (e : CodeEvent) → n ≤ k → NoneInFront plan p node from xs k → slice_get xs k ≡ Some (event_of e) → e.proc.number ≢ p → IsFirstFrom plan p node from None
  none_of_process k e above none is other = λ y a.
      let found = are.all y a.brings.brings in
      elim (cases_lt found.0 k) [
        | inl lt ↦ none found.0 y lt found.1 a
        | inr ge ↦ elim (cases_eq k found.0) [
          | inl eq ↦ other (ap (λ (z : Event). z.proc) (same_Some (event_of e) y (sym is ∙ ap (slice_get xs) eq ∙ found.1)) ∙ a.proc)
          | inr ne ↦ elim (are.rising k found.0 (event_of e) y (omega (arith, ge, ne)) is found.1) [
            | inl low ↦ (let one = a.proc in not_lower k (event_of e) is above (inl (omega (arith, low, one))))
            | inr low ↦ other (low.0 ∙ a.proc)
          ]
        ]
      ]

  pub none_left : (k : ℕ) → length xs ≤ k → NoneInFront plan p node from xs k → IsFirstFrom plan p node from None
  none_left k past none = λ y a.
      let found = are.all y a.brings.brings in
      let within = slice_get_within xs found.0 y found.1 in
      none found.0 y (omega (arith, within, past)) found.1 a
