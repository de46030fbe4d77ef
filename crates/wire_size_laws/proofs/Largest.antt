-- The instances with the most ranks tell of those with fewer.
use Rattle.std.proofs.Common.{◌≡◌, ℕ, zero, suc, ◌+◌, ◌-◌, ◌≤◌, ◌<◌, List, [], ◌∷◌, length, true, ◌==◌, ◌⊎◌, inl, inr, refl, sym, ap, ◌∙◌, subst, arith, eq-eqb, nat_lt, lt-ltb, le-ltb}
use Rattle.std.specs.Prelude.{slice_get, if◌then◌else◌}
use Rattle.std.proofs.lemmas.Bool.{cond-true, cond-false, cases_eq, cases_lt, or_left}
use Rattle.std.proofs.lemmas.Option.{slice_get_within}
use Rattle.wire_runs.specs.Plan.{update}
use Rattle.wire_runs.specs.Fences.{is_member}
use Rattle.wire_runs.specs.Patterns.{Pattern, Coding, Cast, group, instance_of, IsLawful}
use Rattle.wire_runs.specs.Restrictions.{CanGo}
use Rattle.wire_runs.proofs.Basics.{update_same, update_other}
use Rattle.wire_runs.proofs.WholeSets.{group_member}
use Rattle.wire_runs.proofs.RestrictedOnce.{plays_role}
use Rattle.wire_size_laws.specs.Answered.{IsAnswered, HasSizes, AreSettled, AreAnswered, LargestTells, WaitsForOne}
use Rattle.wire_runs.specs.Races.{IsSettled}
use Rattle.wire_size_laws.proofs.Fewer.{fewer_answered}
use Rattle.wire_size_laws.proofs.Grown.{grown, grown_back, grown_cast, grown_order, one_there, one_more_of, as_many_of}

-- the first of some
one_of : (xs : List ℕ) → 1 ≤ length xs → (r : ℕ) × (is_member xs r ≡ true)
one_of [] le = absurd (omega (arith, le))
one_of (x ∷ xs) le = (x, or_left (x == x) (is_member xs x) (eq-eqb x x refl))

module _ (pattern : Pattern) (coding : Coding) (bound : ℕ) (lawful : IsLawful pattern) where
  -- one fewer of a role
  one_less : (sizes : ℕ → ℕ) (role : ℕ) → 3 ≤ sizes role → AreSettled pattern coding bound sizes → AreAnswered pattern coding bound (update sizes role (suc (sizes role))) → AreAnswered pattern coding bound sizes
  one_less sizes role three settled more cast cast_is order has =
      let three_here : 3 ≤ length (group role cast.roles) = subst (λ n. 3 ≤ n) (sym (has role)) three in
      let w = one_of (group role cast.roles) (omega (arith, three_here)) in
      let r = w.0 in
      let plays = plays_role (slice_get cast.roles r) role (sym (group_member role cast.roles r) ∙ w.1) in
      let within = slice_get_within cast.roles r role plays in
      let big = grown r role cast in
      let same = grown_back r role cast within in
      let up = one_more_of r role cast.roles in
      let can : CanGo pattern big r role = record { lawful = lawful; cast_is = grown_cast pattern cast r role cast_is three_here; is = one_there r role cast.roles within; four = omega (arith, up, three_here) } in
      let all = more big can.cast_is (grown_order bound r role cast plays order) (sizes_there cast r role has) in
      let s = settled cast cast_is order has in
      subst (λ c. IsAnswered (instance_of pattern coding c)) same
      (fewer_answered pattern coding big r role can
      (subst (λ c. IsSettled (instance_of pattern coding c)) (sym same) s.0)
      (subst (λ c. WaitsForOne (instance_of pattern coding c)) (sym same) s.1) all)
    where
      sizes_there : (cast : Cast) (r role : ℕ) → HasSizes sizes cast → HasSizes (update sizes role (suc (sizes role))) (grown r role cast)
      sizes_there cast r role has other = elim (cases_eq other role) [
        | inl s ↦ subst (λ v. length (group v (grown r role cast).roles) ≡ update sizes role (suc (sizes role)) v) (sym s)
            (one_more_of r role cast.roles ∙ ap suc (has role) ∙ sym (update_same sizes role (suc (sizes role))))
        | inr ne ↦ as_many_of other r role cast.roles (λ s. ne (sym s)) ∙ has other ∙ sym (update_other sizes role (suc (sizes role)) other ne)
      ]

  -- sizes that are the same have the same casts
  same_sizes : (a b : ℕ → ℕ) → ((role : ℕ) → a role ≡ b role) → AreAnswered pattern coding bound a → AreAnswered pattern coding bound b
  same_sizes a b same all cast cast_is order has = all cast cast_is order (λ role. has role ∙ sym (same role))

  -- any number fewer of a role
  less : (n : ℕ) (sizes : ℕ → ℕ) (role top : ℕ) → sizes role + n ≡ top → 3 ≤ sizes role
      → ((between : ℕ → ℕ) → ((other : ℕ) → (other ≡ role → ⊥) → between other ≡ sizes other) → sizes role ≤ between role → between role ≤ top → AreSettled pattern coding bound between)
      → AreAnswered pattern coding bound (update sizes role top) → AreAnswered pattern coding bound sizes
  less zero sizes role top is three settled all = same_sizes (update sizes role top) sizes (λ other. elim (cases_eq other role) [
    | inl s ↦ (let e : top ≡ sizes role = omega (arith, is) in subst (λ v. update sizes role top v ≡ sizes v) (sym s) (update_same sizes role top ∙ e))
    | inr ne ↦ update_other sizes role top other ne
  ]) all
  less (suc n) sizes role top is three settled all =
      let next = update sizes role (suc (sizes role)) in
      let here : next role ≡ suc (sizes role) = update_same sizes role (suc (sizes role)) in
      let elsewhere : (other : ℕ) → (other ≡ role → ⊥) → next other ≡ sizes other = λ other ne. update_other sizes role (suc (sizes role)) other ne in
      one_less sizes role three (settled sizes (λ other ne. refl) (omega arith) (omega (arith, is)))
      (less n next role top (omega (arith, here, is)) (omega (arith, here, three))
      (λ between same low high. settled between (λ other ne. same other ne ∙ elsewhere other ne) (omega (arith, low, here)) high)
      (same_sizes (update sizes role top) (update next role top) (λ other. elim (cases_eq other role) [
        | inl s ↦ subst (λ v. update sizes role top v ≡ update next role top v) (sym s) (update_same sizes role top ∙ sym (update_same next role top))
        | inr ne ↦ update_other sizes role top other ne ∙ sym (elsewhere other ne) ∙ sym (update_other next role top other ne)
      ]) all))

  module _ (sizes most : ℕ → ℕ) (fewer : (role : ℕ) → (sizes role ≡ most role) ⊎ ((3 ≤ sizes role) × (sizes role ≤ most role)))
      (settled : (between : ℕ → ℕ) → ((role : ℕ) → (sizes role ≤ between role) × (between role ≤ most role)) → AreSettled pattern coding bound between) where
    low : (role : ℕ) → sizes role ≤ most role
    low role = elim (fewer role) [ inl e ↦ omega (arith, e) | inr b ↦ b.1 ]

    -- the roles before k have their size, the others the most
    abbrev mixed : ℕ → ℕ → ℕ
    mixed k role = if nat_lt role k then sizes role else most role

    before : (k role : ℕ) → role < k → mixed k role ≡ sizes role
    before k role lt = cond-true (nat_lt role k) (sizes role) (most role) (lt-ltb role k lt)

    behind : (k role : ℕ) → k ≤ role → mixed k role ≡ most role
    behind k role le = cond-false (nat_lt role k) (sizes role) (most role) (le-ltb role k le)

    within : (k role : ℕ) → (sizes role ≤ mixed k role) × (mixed k role ≤ most role)
    within k role = elim (cases_lt role k) [
      | inl lt ↦ (let e = before k role lt in let l = low role in (omega (arith, e), omega (arith, e, l)))
      | inr le ↦ (let e = behind k role le in let l = low role in (omega (arith, e, l), omega (arith, e)))
    ]

    all_mixed : AreAnswered pattern coding bound most → (k : ℕ) → AreAnswered pattern coding bound (mixed k)
    all_mixed all zero = same_sizes most (mixed zero) (λ role. sym (behind zero role (omega arith))) all
    all_mixed all (suc k) =
        let h = all_mixed all k in
        let own = before (suc k) k (omega arith) in
        elim (fewer k) [
          | inl e ↦ same_sizes (mixed k) (mixed (suc k)) (λ role. elim (cases_eq role k) [
            | inl s ↦ subst (λ v. mixed k v ≡ mixed (suc k) v) (sym s) (behind k k (omega arith) ∙ sym e ∙ sym own)
            | inr ne ↦ others k role ne
          ]) h
          | inr b ↦ (
              let top = b.1 in
              let three = b.0 in
              less (most k - sizes k) (mixed (suc k)) k (most k) (omega (arith, own, top)) (omega (arith, own, three))
              (λ between same lower higher. settled between (λ role. elim (cases_eq role k) [
                | inl s ↦ subst (λ v. (sizes v ≤ between v) × (between v ≤ most v)) (sym s) (omega (arith, own, lower), higher)
                | inr ne ↦ subst (λ v. (sizes role ≤ v) × (v ≤ most role)) (sym (same role ne)) (within (suc k) role)
              ]))
              (same_sizes (mixed k) (update (mixed (suc k)) k (most k)) (λ role. elim (cases_eq role k) [
                | inl s ↦ subst (λ v. mixed k v ≡ update (mixed (suc k)) k (most k) v) (sym s) (behind k k (omega arith) ∙ sym (update_same (mixed (suc k)) k (most k)))
                | inr ne ↦ others k role ne ∙ sym (update_other (mixed (suc k)) k (most k) role ne)
              ]) h))
        ]
      where
        after : (k role : ℕ) → k ≤ role → (role ≡ k → ⊥) → suc k ≤ role
        after k role le ne = elim (cases_lt k role) [ inl lt ↦ omega (arith, lt) | inr ge ↦ absurd (ne (omega (arith, ge, le))) ]

        others : (k role : ℕ) → (role ≡ k → ⊥) → mixed k role ≡ mixed (suc k) role
        others k role ne = elim (cases_lt role k) [
          | inl lt ↦ before k role lt ∙ sym (before (suc k) role (omega (arith, lt)))
          | inr le ↦ behind k role le ∙ sym (behind (suc k) role (after k role le ne))
        ]

pub largest_tells : LargestTells
largest_tells pattern coding bound sizes most lawful fewer settled all =
    same_sizes pattern coding bound lawful (mixed pattern coding bound lawful sizes most fewer.0 settled bound) sizes (λ role. elim (cases_lt role bound) [
      | inl lt ↦ before pattern coding bound lawful sizes most fewer.0 settled bound role lt
      | inr le ↦ behind pattern coding bound lawful sizes most fewer.0 settled bound role le ∙ sym (fewer.1 role le)
    ]) (all_mixed pattern coding bound lawful sizes most fewer.0 settled all bound)
