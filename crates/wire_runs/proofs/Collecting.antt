-- A fence collects exactly where each of its calls says collect.
use Rattle.std.proofs.Common.{◌≡◌, ℕ, zero, suc, ◌<◌, ◌≤◌, List, Bool, true, ◌&&◌, ◌==◌, Option, Some, inl, inr, refl, sym, ap, ◌∙◌, subst, arith, eq-eqb, ne_eqb, eqb-true}
use Rattle.std.specs.Prelude.{bytes_eq as same_members}
use Rattle.std.proofs.lemmas.Slice.Eq.{bytes_eq-Decides}
use Rattle.std.proofs.lemmas.Bool.{cond-true, cond-false, cond_both, cases_eq, and_parts, and_from, and_right}
use Rattle.wire_runs.specs.Plan.{Plan, Kind, Arrive, kind_at, event_count}
use Rattle.wire_runs.specs.Fences.{arrivals, collects_with, collects}
use Rattle.wire_runs.specs.Laws.{CollectsByAll}
use Rattle.wire_runs.proofs.Basics.{arrivals_rise, arrivals_step, list_all_at_member, event_within}
use Rattle.wire_runs.proofs.Brought.{list_all_of_members}

module _ (plan : Plan) (members : List ℕ) (j : ℕ) where
  -- m's call of this fence, among its first n events, says collect
  abbrev Say : ℕ → ℕ → Type 0
  Say m n =
      (at : ℕ) (collect : Bool) → at < n → kind_at plan m at ≡ Some (Arrive members collect) → arrivals plan m members (suc at) ≡ j → collect ≡ true

  kept : (n : ℕ) (before : Bool) (o : Option Kind) → j ≤ n → collects_with members j n before o ≡ before
  kept n before (Some (Arrive others collect)) past =
      let not_nth : suc n ≡ j → ⊥ = λ e. absurd (omega (arith, e, past)) in
      cond-false _ _ _ (and_right (same_members others members) (suc n == j) (ne_eqb (suc n) j not_nth))
  kept n before _ past = refl

  is_nth : (m n : ℕ) (collect : Bool) → kind_at plan m n ≡ Some (Arrive members collect) → arrivals plan m members (suc n) ≡ j →
      collects plan m members j (suc n) ≡ collect
  is_nth m n collect is nth =
      ap (collects_with members j (arrivals plan m members n) (collects plan m members j n)) is
      ∙ cond-true _ _ _ (and_from (same_members members members) (suc (arrivals plan m members n) == j) ((bytes_eq-Decides members members).1 refl)
      (eq-eqb _ _ (sym (arrivals_step plan m members collect n is) ∙ nth)))

  each_says : (m n : ℕ) → collects plan m members j n ≡ true → Say m n
  each_says m zero h at collect lt is nth = absurd (omega (arith, lt))
  each_says m (suc n) h at collect lt is nth = elim (cases_eq at n) [
    | inl e ↦
        sym (is_nth m n collect (subst (λ i. kind_at plan m i ≡ Some (Arrive members collect)) e is) (subst (λ i. arrivals plan m members (suc i) ≡ j) e nth)) ∙ h
    | inr ne ↦
        let rise = arrivals_rise plan m members (suc at) n (omega (arith, lt, ne)) in
        let past : j ≤ arrivals plan m members n = omega (arith, rise, nth) in
        each_says m n (sym (kept (arrivals plan m members n) (collects plan m members j n) (kind_at plan m n) past) ∙ h) at collect (omega (arith, lt, ne)) is nth
  ]

  it_collects : (m n : ℕ) → Say m n → collects plan m members j n ≡ true
  it_collects m zero says = refl
  it_collects m (suc n) says =
      go (kind_at plan m n) refl (it_collects m n (λ at collect lt is nth. says at collect (omega (arith, lt)) is nth))
    where
      go : (o : Option Kind) → kind_at plan m n ≡ o → collects plan m members j n ≡ true →
          collects_with members j (arrivals plan m members n) (collects plan m members j n) o ≡ true
      go (Some (Arrive others collect)) e before =
          cond_both (same_members others members && (suc (arrivals plan m members n) == j)) collect (collects plan m members j n) (λ b. b ≡ true)
          (λ t.
          let both = and_parts _ _ t in
          let is = e ∙ ap (λ ms. Some (Arrive ms collect)) ((bytes_eq-Decides others members).0 both.0) in
          says n collect (omega arith) is (arrivals_step plan m members collect n is ∙ eqb-true _ _ both.1))
          (λ f. before)
      go _ e before = before

-- the law
pub collects_by_all : CollectsByAll
collects_by_all plan members j = (
  λ h z call.
      each_says plan members j z.proc (event_count plan z.proc) (list_all_at_member _ members z.proc h call.member) z.at call.collect
      (event_within plan z.proc z.at _ call.is) call.is call.nth,
  λ says.
      list_all_of_members _ members (λ m i.
      it_collects plan members j m (event_count plan m) (λ at collect lt is nth.
      says (record { proc = m; at = at }) (record { collect = collect; is = is; member = i; nth = nth }))),
)
