-- The gets that bring a key to a node, and a get.
use Rattle.std.proofs.Common.{◌≡◌, ◌∙◌, ap, sym, subst, ℕ, suc, ◌-◌, ◌<◌, ◌≤◌, List, length, Some, arith, inl, inr}
use Rattle.std.specs.Prelude.{slice_get, slice_index_or, map}
use Rattle.std.proofs.lemmas.Bool.{cases_eq, cases_lt}
use Rattle.std.proofs.lemmas.Option.{same_Some, slice_get_within}
use Rattle.std.proofs.lemmas.List.{length-map}
use Rattle.wire_runs.specs.Plan.{Plan, Event, event_of}
use Rattle.wire_types.specs.declared.place.Event.{Event as CodeEvent}
use Rattle.wire_fates.proofs.Places.{place_at}
use Rattle.wire_runs.specs.EventLists.{AreAll}
use Rattle.wire_runs.specs.Order.{Live, Before}
use Rattle.wire_runs.specs.Races.{GetDelivers}
use Rattle.wire_plan.specs.Index.{AreGetDeliveries}
use Rattle.wire_fates.specs.Deliveries.{AreOfOne, EndsAt, IsSureByGet}
use Rattle.wire_runs.proofs.Histories.{before_live, same_process, joined}

-- events of a list by their places
pub one_at : (gets : List CodeEvent) (i j k : ℕ) (d e : CodeEvent) → i < length gets → j < length gets → k ≡ suc j → (slice_index_or gets j e).proc.number ≡ (slice_index_or gets i d).proc.number →
    AreOfOne (map event_of gets) i (k - 1)
one_at gets i j k d e low high next same = record {
  first = event_of (slice_index_or gets i d);
  second = event_of (slice_index_or gets j e);
  first_is = place_at gets i d low;
  second_is = (let is : k - 1 ≡ j = omega (arith, next) in ap (slice_get (map event_of gets)) is ∙ place_at gets j e high);
  same = sym same;
}

-- behind all events no other process begins
pub ends_nowhere : (gets : List CodeEvent) (i n : ℕ) → length gets ≤ n → EndsAt (map event_of gets) i n
ends_nowhere gets i n le y z first second same =
    let within = slice_get_within (map event_of gets) n z second in
    let size = length-map gets event_of in
    omega (arith, within, size, le)

-- where one of another process stands, that of the first ends
pub ends_here : (gets : List CodeEvent) (i m : ℕ) (d e : CodeEvent) → i < length gets → m < length gets → ((slice_index_or gets m e).proc.number ≡ (slice_index_or gets i d).proc.number → ⊥) →
    EndsAt (map event_of gets) i m
ends_here gets i m d e low high other y z first second same =
    let there = same_Some _ _ (sym (place_at gets i d low) ∙ first) in
    let here = same_Some _ _ (sym (place_at gets m e high) ∙ second) in
    other (ap (λ (x : Event). x.proc) here ∙ same ∙ sym (ap (λ (x : Event). x.proc) there))

-- an event of the process is earlier than another, or the same
pub record IsUpTo (y z : Event) : Type 0 where
  pub same : y.proc ≡ z.proc
  pub upto : y.at ≤ z.at

module _ (holds : Event → Type 0) (places : List Event) (are : AreAll holds places) where
  pub between : (i k m : ℕ) (z : Event) → i ≤ k → k < m → AreOfOne places i (m - 1) → slice_get places k ≡ Some z → (y : Event) × (slice_get places i ≡ Some y) × IsUpTo y z
  between i k m z low high one is = (
    one.first,
    one.first_is,
    elim (cases_eq i k) [
      | inl e ↦
          (let same : one.first ≡ z = same_Some _ _ (sym one.first_is ∙ ap (slice_get places) e ∙ is) in
          record { same = ap (λ (x : Event). x.proc) same; upto = (let at = ap (λ (x : Event). x.at) same in omega (arith, at)) })
      | inr ne ↦ elim (are.rising i k one.first z (omega (arith, low, ne)) one.first_is is) [
        | inr h ↦ (let lt = h.1 in record { same = h.0; upto = omega (arith, lt) })
        | inl lt ↦ absurd (elim (cases_eq k (m - 1)) [
          | inl e ↦
              (let same : z ≡ one.second = same_Some _ _ (sym is ∙ ap (slice_get places) e ∙ one.second_is) in
              let proc = ap (λ (x : Event). x.proc) same in
              let also = one.same in
              omega (arith, lt, proc, also))
          | inr other ↦
              (let also = one.same in
              elim (are.rising k (m - 1) z one.second (omega (arith, high, other)) is one.second_is) [
                | inl l ↦ omega (arith, lt, l, also)
                | inr h ↦ (let proc = h.0 in omega (arith, lt, proc, also))
              ])
        ])
      ]
    ],
  )

module _ (plan : Plan) (y z : Event) (up : IsUpTo y z) where
  -- what is before z's get is so of y too, and y is live where z is
  pub first_live : Live plan z → Live plan y
  first_live l = elim (cases_eq y.at z.at) [
    | inl e ↦ subst (Live plan) (λ t. record { proc = sym up.same t; at = sym e t }) l
    | inr ne ↦ before_live (same_process plan y z l up.same (let le = up.upto in omega (arith, le, ne)))
  ]

  pub first_before : (get : Event) → Before plan z get → Before plan y get
  first_before get b = elim (cases_eq y.at z.at) [
    | inl e ↦ subst (λ x. Before plan x get) (λ t. record { proc = sym up.same t; at = sym e t }) b
    | inr ne ↦ joined (same_process plan y z (before_live b) up.same (let le = up.upto in omega (arith, le, ne))) b
  ]

  pub later_after : (get : Event) → Live plan z → Before plan get y → Before plan get z
  later_after get l b = elim (cases_eq y.at z.at) [
    | inl e ↦ subst (λ x. Before plan get x) (λ t. record { proc = up.same t; at = e t }) b
    | inr ne ↦ joined b (same_process plan y z l up.same (let le = up.upto in omega (arith, le, ne)))
  ]

-- none of the first n of these events is before the get
abbrev pub NoneBefore : Plan → Event → List Event → ℕ → Type 0
NoneBefore plan get places n = (k : ℕ) (z : Event) → k < n → slice_get places k ≡ Some z → Before plan z get → ⊥

module _ (plan : Plan) (get : Event) (p key node : ℕ) (places : List Event) (are : AreGetDeliveries plan p key node places) where
  -- where the first get of a process isn't before the get, none of them is
  pub none_further : (n m : ℕ) (y : Event) → slice_get places n ≡ Some y → (Before plan y get → ⊥) → AreOfOne places n (m - 1) → NoneBefore plan get places n → NoneBefore plan get places m
  none_further n m y is never one none k z lt at before = elim (cases_lt k n) [
    | inl low ↦ none k z low at before
    | inr high ↦
        (let b = between (GetDelivers plan p key node) places are n k m z high lt one at in
        let same : b.0 ≡ y = same_Some _ _ (sym b.1 ∙ is) in
        never (subst (λ x. Before plan x get) same (first_before plan b.0 z b.2 get before)))
  ]

  pub sure_found : (n : ℕ) (z : Event) → slice_get places n ≡ Some z → Before plan z get → IsSureByGet plan p key node get
  sure_found n z is before = (z, are.only n z is, before)

  pub none_sure : (n : ℕ) → length places ≤ n → NoneBefore plan get places n → IsSureByGet plan p key node get → ⊥
  none_sure n end none sure =
      let at = are.all sure.0 sure.1 in
      let within = slice_get_within places at.0 sure.0 at.1 in
      none at.0 sure.0 (omega (arith, within, end)) at.1 sure.2
