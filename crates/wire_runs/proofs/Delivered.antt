-- The last arrival of a process that brings its data tells what is delivered.
use Rattle.std.proofs.Common.{◌≡◌, ℕ, suc, zero, List, [], Bool, true, Option, Some, inl, inr, refl, sym, ap, ◌∙◌, subst, arith}
use Rattle.std.proofs.lemmas.Bool.{cases_eq, cases_Bool, true≢false}
use Rattle.wire_runs.specs.Plan.{Plan, Kind, Arrive, kind_at}
use Rattle.wire_runs.specs.Puts.{stored}
use Rattle.wire_runs.specs.Fences.{arrivals}
use Rattle.wire_runs.specs.Sight.{has_brought, stored_at_with, delivered_with, delivered}
use Rattle.wire_runs.specs.Laws.{IsBringing, IsBrought, ByLast, ByNone, DeliveredByLast}

abbrev members_in : Option Kind → List ℕ
members_in (Some (Arrive members collect)) = members
members_in _ = []

same_members : (a b : List ℕ) (c d : Bool) → ◌≡◌ {A = Option Kind} (Some (Arrive a c)) (Some (Arrive b d)) → a ≡ b
same_members a b c d e = ap members_in e

module _ (plan : Plan) (cut : ℕ → ℕ) (p node key : ℕ) where
  more : (n at : ℕ) → IsBringing plan cut p node n at → IsBringing plan cut p node (suc n) at
  more n at b = let lt = b.among in record { members = b.members; collect = b.collect; is = b.is; brings_it = b.brings_it; among = omega (arith, lt) }

  fewer : (n at : ℕ) → (at ≡ n → ⊥) → IsBringing plan cut p node (suc n) at → IsBringing plan cut p node n at
  fewer n at ne b = let lt = b.among in record { members = b.members; collect = b.collect; is = b.is; brings_it = b.brings_it; among = omega (arith, lt, ne) }

  -- an event that brings nothing changes nothing
  passed : (n : ℕ) (before after : Option ℕ) → (IsBringing plan cut p node (suc n) n → ⊥) → after ≡ before → IsBrought plan cut p node key n before →
      IsBrought plan cut p node key (suc n) after
  passed n before after not_here same (ByLast at last is) =
      ByLast at (record {
        one = more n at last.one;
        greatest = λ other b. elim (cases_eq other n) [
          | inl e ↦ absurd (not_here (subst (λ i. IsBringing plan cut p node (suc n) i) e b))
          | inr ne ↦ last.greatest other (fewer n other ne b)
        ];
      }) (same ∙ is)
  passed n before after not_here same (ByNone none_ is) =
      ByNone (λ at b. elim (cases_eq at n) [
        | inl e ↦ not_here (subst (λ i. IsBringing plan cut p node (suc n) i) e b)
        | inr ne ↦ none_ at (fewer n at ne b)
      ]) (same ∙ is)

  told : (n : ℕ) → IsBrought plan cut p node key n (delivered plan cut p node key n)
  told zero = ByNone (λ at b. let lt = b.among in absurd (omega (arith, lt))) refl
  told (suc n) = go (kind_at plan p n) refl (told n)
    where
      go : (o : Option Kind) → kind_at plan p n ≡ o → IsBrought plan cut p node key n (delivered plan cut p node key n) →
          IsBrought plan cut p node key (suc n) (delivered_with plan cut p node key n (delivered plan cut p node key n) o)
      go (Some (Arrive members collect)) e before = elim (cases_Bool (has_brought plan cut p node members (arrivals plan p members (suc n)))) [
        | inl b ↦
            ByLast n (record {
              one = record { members = members; collect = collect; is = e; brings_it = b; among = omega arith };
              greatest = λ other o. let lt = o.among in omega (arith, lt);
            }) (ap (λ v. stored_at_with v (stored plan p key n) (delivered plan cut p node key n)) b)
        | inr f ↦
            passed n (delivered plan cut p node key n) _
            (λ o.
            let same : o.members ≡ members = same_members o.members members o.collect collect (sym o.is ∙ e) in
            true≢false (sym (subst (λ ms. has_brought plan cut p node ms (arrivals plan p ms (suc n)) ≡ true) same o.brings_it) ∙ f))
            (ap (λ v. stored_at_with v (stored plan p key n) (delivered plan cut p node key n)) f) before
      ]
      go _ e before = passed n (delivered plan cut p node key n) _ (λ o. let is = sym e ∙ o.is in cc) refl before

-- the law
pub delivered_by_last : DeliveredByLast
delivered_by_last plan cut p node key n = told plan cut p node key n
