-- Lists of places that grow as events are read, process after process.
use Rattle.std.proofs.Common.{◌≡◌, ◌∙◌, ℕ, suc, ◌<◌, List, [], ◌∷◌, ◌++◌, ◌⊎◌, inl, inr, refl, sym, ap, subst, arith}
use Rattle.std.proofs.lemmas.Bool.{cases_eq}
use Rattle.wire_runs.specs.Plan.{Event}
use Rattle.wire_runs.specs.EventLists.{IsLower, AreAll}
use Rattle.wire_runs.proofs.EventLists.{all_and_one, all_same, all_of_none}

abbrev pub place : ℕ → ℕ → Event
place p i = record { proc = p; at = i }

-- of the places before p's event number i those of which it holds
abbrev pub Earlier : (Event → Type 0) → ℕ → ℕ → Event → Type 0
Earlier holds p i x = holds x × IsLower x (place p i)

-- one more place, higher than all others
pub all_more : (A B : Event → Type 0) (xs : List Event) (y : Event) → ((x : Event) → A x → B x × IsLower x y) → ((x : Event) → B x → A x ⊎ (y ≡ x)) → B y → AreAll A xs → AreAll B (xs ++ y ∷ [])
all_more A B xs y there back new are = all_and_one A B xs y (λ x a. (there x a).1) (λ x a. (there x a).0) new back are

lower_next : (p i : ℕ) (x : Event) → IsLower x (place p i) → IsLower x (place p (suc i))
lower_next p i x (inl lt) = inl lt
lower_next p i x (inr (e, lt)) = inr (e, omega (arith, lt))

lower_cases : (p i : ℕ) (x : Event) → IsLower x (place p (suc i)) → IsLower x (place p i) ⊎ (place p i ≡ x)
lower_cases p i x (inl lt) = inl (inl lt)
lower_cases p i x (inr (e, lt)) = elim (cases_eq x.at i) [
  | inl same ↦ inr (sym (ap (λ q. place q x.at) e ∙ ap (place p) same))
  | inr ne ↦ inl (inr (e, omega (arith, lt, ne)))
]

module _ (holds : Event → Type 0) where
  -- nothing is before the first event
  pub none_yet : AreAll (Earlier holds 0 0) []
  none_yet = all_of_none _ (λ x h. elim h.1 [ inl lt ↦ omega (arith, lt) | inr h ↦ let lt = h.1 in omega (arith, lt) ])

  -- one more event of which it holds
  pub one_more : (p i : ℕ) (xs : List Event) → holds (place p i) → AreAll (Earlier holds p i) xs → AreAll (Earlier holds p (suc i)) (xs ++ place p i ∷ [])
  one_more p i xs new are = all_more (Earlier holds p i) (Earlier holds p (suc i)) xs (place p i)
      (λ x h. ((h.0, lower_next p i x h.1), h.1))
      (λ x h. elim (lower_cases p i x h.1) [ inl low ↦ inl (h.0, low) | inr e ↦ inr e ])
      (new, inr (refl, omega arith))
      are

  -- and one of which it doesn't
  pub one_other : (p i : ℕ) (xs : List Event) → (holds (place p i) → ⊥) → AreAll (Earlier holds p i) xs → AreAll (Earlier holds p (suc i)) xs
  one_other p i xs never are = all_same _ _ xs
      (λ x h. (h.0, lower_next p i x h.1))
      (λ x h. elim (lower_cases p i x h.1) [ inl low ↦ (h.0, low) | inr e ↦ absurd (never (subst holds (sym e) h.0)) ])
      are

  -- all events of a process
  pub whole_process : (p n : ℕ) (xs : List Event) → ((i : ℕ) → holds (place p i) → i < n) → AreAll (Earlier holds p n) xs → AreAll (Earlier holds (suc p) 0) xs
  whole_process p n xs few are = all_same _ _ xs
      (λ x h. (h.0, elim h.1 [ inl lt ↦ inl (omega (arith, lt)) | inr e ↦ let same = e.0 in inl (omega (arith, same)) ]))
      (λ x h. (
        h.0,
        elim h.1 [
          | inl lt ↦ elim (cases_eq x.proc p) [
            | inl e ↦ inr (e, few x.at (subst (λ q. holds (place q x.at)) e h.0))
            | inr ne ↦ inl (omega (arith, lt, ne))
          ]
          | inr e ↦ let lt = e.1 in absurd (omega (arith, lt))
        ],
      ))
      are

  -- all processes
  pub whole_plan : (n : ℕ) (xs : List Event) → ((x : Event) → holds x → x.proc < n) → AreAll (Earlier holds n 0) xs → AreAll holds xs
  whole_plan n xs few are = all_same _ _ xs (λ x h. h.0) (λ x h. (h, inl (few x h))) are
