-- The first event of a process among events in process order.
use Rattle.std.proofs.Common.{◌≡◌, ◌∙◌, ap, sym, subst, ℕ, ◌≤◌, List, length, map, true, false, Some, nat_lt, get_or, arith, inl, inr}
use Rattle.std.specs.Prelude.{slice_get}
use Rattle.std.specs.List.Sorted.{IsPartitionedBy}
use Rattle.std.proofs.lemmas.Bool.{true≢false, cases_lt, cases_eq, lt-ltb, le-ltb, ltb-true}
use Rattle.std.proofs.lemmas.Option.{same_Some, slice_get_within}
use Rattle.wire_runs.specs.Plan.{Event, event_of}
use Rattle.wire_types.specs.declared.Event.{Event as CodeEvent}
use Rattle.wire_plan.specs.Bringing.{IsRising}
use Rattle.wire_plan.proofs.FirstBringing.{shown}
use Rattle.wire_anywhere.specs.Carriers.{IsEarliest}

-- those of lower processes stand before the others
pub below_first : (xs : List CodeEvent) (m : ℕ) → IsRising (map event_of xs) → IsPartitionedBy (λ (x : CodeEvent). nat_lt x.proc.number m) xs
below_first xs m rising i j d le lt below = elim (cases_eq i j) [
  | inl same ↦ subst (λ k. nat_lt (get_or xs k d).proc.number m ≡ true) (sym same) below
  | inr other ↦
      (let under = ltb-true (get_or xs j d).proc.number m below in
      elim (rising i j (event_of (get_or xs i d)) (event_of (get_or xs j d)) (omega (arith, le, other)) (shown xs i d (omega (arith, le, lt))) (shown xs j d lt)) [
        | inl low ↦ lt-ltb (get_or xs i d).proc.number m (omega (arith, low, under))
        | inr low ↦ let same = low.0 in lt-ltb (get_or xs i d).proc.number m (omega (arith, same, under))
      ])
]

module _ (places : List Event) (rising : IsRising places) (m n : ℕ) (exactly : (k : ℕ) (x : Event) → slice_get places k ≡ Some x → nat_lt x.proc m ≡ nat_lt k n) where
  not_sooner : (k : ℕ) (z : Event) → slice_get places k ≡ Some z → z.proc ≡ m → n ≤ k
  not_sooner k z is same = elim (cases_lt k n) [
    | inl lt ↦ absurd (let low = ltb-true z.proc m (exactly k z is ∙ lt-ltb k n lt) in omega (arith, low, same))
    | inr ge ↦ ge
  ]

  -- the event there, where it is of the process
  pub is_first : (x : Event) → slice_get places n ≡ Some x → x.proc ≡ m → IsEarliest places m x
  is_first x is same = record {
    k = n;
    is = is;
    proc = same;
    first = λ l z at its. (
        let le = not_sooner l z at its in
        elim (cases_eq n l) [
          | inl e ↦ (let one : x ≡ z = same_Some _ _ (sym is ∙ ap (slice_get places) e ∙ at) in let there = ap (λ (v : Event). v.at) one in omega (arith, there))
          | inr ne ↦ elim (rising n l x z (omega (arith, le, ne)) is at) [
            | inl low ↦ absurd (omega (arith, low, same, its))
            | inr low ↦ (let lt = low.1 in omega (arith, lt))
          ]
        ]);
  }

  -- none is, where that one isn't
  pub another_there : (x : Event) → slice_get places n ≡ Some x → (x.proc ≡ m → ⊥) → (k : ℕ) (z : Event) → slice_get places k ≡ Some z → z.proc ≡ m → ⊥
  another_there x is other k z at its =
      let le = not_sooner k z at its in
      let above : m ≤ x.proc = elim (cases_lt x.proc m) [
        | inl lt ↦ absurd (true≢false (sym (lt-ltb x.proc m lt) ∙ exactly n x is ∙ le-ltb n n (omega arith)))
        | inr ge ↦ ge
      ] in
      elim (cases_eq n k) [
        | inl e ↦ (let one : x ≡ z = same_Some _ _ (sym is ∙ ap (slice_get places) e ∙ at) in other (ap (λ (v : Event). v.proc) one ∙ its))
        | inr ne ↦ elim (rising n k x z (omega (arith, le, ne)) is at) [
          | inl low ↦ omega (arith, low, above, its)
          | inr low ↦ other (low.0 ∙ its)
        ]
      ]

  -- nor where nothing stands there
  pub nothing_there : length places ≤ n → (k : ℕ) (z : Event) → slice_get places k ≡ Some z → z.proc ≡ m → ⊥
  nothing_there end k z at its =
      let le = not_sooner k z at its in
      let lt = slice_get_within places k z at in
      omega (arith, le, lt, end)

pub past_end : (n m : ℕ) → false ≡ nat_lt n m → m ≤ n
past_end n m e = elim (cases_lt n m) [ inl lt ↦ absurd (true≢false (sym (lt-ltb n m lt) ∙ sym e)) | inr ge ↦ ge ]
