-- Instances in the order of their roles are settled where the small ones are: by one rank fewer, again and again.
use Rattle.std.proofs.Common.{◌≡◌, ℕ, zero, suc, ◌<◌, ◌≤◌, List, [], ◌∷◌, length, Some, ◌⊎◌, inl, inr, sym, ◌∙◌, subst, arith}
use Rattle.std.specs.Prelude.{slice_get}
use Rattle.std.proofs.lemmas.Bool.{cases_lt, cases_eq}
use Rattle.wire_runs.specs.Races.{IsSettled}
use Rattle.wire_runs.specs.Patterns.{Pattern, Coding, Cast, group, instance_of, IsLawful, IsCastOf}
use Rattle.wire_runs.specs.Restrictions.{skip, without, restricted, CanGo}
use Rattle.wire_runs.proofs.WholeSets.{single_stays}
use Rattle.wire_runs.proofs.Skip.{without_get}
use Rattle.wire_runs.proofs.SmallInstances.{without_length, one_fewer, others_stay, fewer_settle}
use Rattle.wire_pattern_laws.specs.Ordered.{DontFall, HasRolesInOrder, HasLeast, AllowThree, SmallOnesAreSettled, OrderedSuffice}

-- order stays
from_lower : (first lower : ℕ) (xs : List ℕ) → lower ≤ first → DontFall first xs → DontFall lower xs
from_lower first lower [] le d = tt
from_lower first lower (x ∷ xs) le d = ((let h = d.0 in omega (arith, le, h)), d.1)

without_order : (first r : ℕ) (xs : List ℕ) → DontFall first xs → DontFall first (without r xs)
without_order first r [] d = tt
without_order first zero (x ∷ xs) d = from_lower x first xs d.0 d.1
without_order first (suc r) (x ∷ xs) d = (d.0, without_order x r xs d.1)

pub restricted_order : (bound r : ℕ) (cast : Cast) → HasRolesInOrder bound cast → HasRolesInOrder bound (restricted r cast)
restricted_order bound r cast o = record {
  order = without_order 0 r cast.roles o.order;
  below = λ p role is. o.below (skip r p) role (sym (without_get r cast.roles p) ∙ is);
}

module _ (pattern : Pattern) (coding : Coding) (bound : ℕ) (least most : ℕ → ℕ) (lawful : IsLawful pattern) (allow : AllowThree bound least most)
    (small : SmallOnesAreSettled pattern coding bound least most) where
  -- a role with more than its most, or none
  pub look : (cast : Cast) (n : ℕ) → n ≤ bound → ((role : ℕ) × (role < bound) × (most role < length (group role cast.roles))) ⊎ ((role : ℕ) → role < n → length (group role cast.roles) ≤ most role)
  look cast zero le = inr (λ role lt. absurd (omega (arith, lt)))
  look cast (suc n) le = elim (cases_lt (most n) (length (group n cast.roles))) [
    | inl more ↦ inl (n, omega (arith, le), more)
    | inr enough ↦ elim (look cast n (omega (arith, le))) [
      | inl found ↦ inl found
      | inr rest ↦ inr (λ role lt. elim (cases_eq n role) [
        | inl s ↦ subst (λ v. length (group v cast.roles) ≤ most v) s enough
        | inr ne ↦ rest role (omega (arith, lt, ne))
      ])
    ]
  ]

  pub fewer_cast : (cast : Cast) (r role : ℕ) → CanGo pattern cast r role → IsCastOf pattern (restricted r cast)
  fewer_cast cast r role can = record { only = λ other single. (let s = single_stays pattern cast r role can other single in (s.0, s.1)) }

  pub enough_left : (cast : Cast) (r role : ℕ) → slice_get cast.roles r ≡ Some role → role < bound → most role < length (group role cast.roles) → HasLeast bound least cast
      → HasLeast bound least (restricted r cast)
  enough_left cast r role is lt more has other lo = elim (cases_eq role other) [
    | inl s ↦ subst (λ v. least v ≤ length (group v (without r cast.roles))) s (let a = one_fewer role r cast.roles in let b = (allow role lt).1 in omega (arith, a, b, more))
    | inr ne ↦ (let a = others_stay other role r cast.roles is ne in let b = has other lo in omega (arith, a, b))
  ]

  -- the instance is settled if those with one rank fewer of a role with too many are
  by_fewer : (cast : Cast) → IsCastOf pattern cast → HasRolesInOrder bound cast → HasLeast bound least cast →
      ((r role : ℕ) → CanGo pattern cast r role → role < bound → most role < length (group role cast.roles) → IsSettled (instance_of pattern coding (restricted r cast))) → IsSettled (instance_of pattern coding cast)
  by_fewer cast cast_is order has fewer = elim (look cast bound (omega arith)) [
    | inr rest ↦ small cast cast_is order has rest
    | inl found ↦ (
        let role = found.0 in
        let more = found.2 in
        let cut = (allow role found.1).0 in
        let four : 4 ≤ length (group role cast.roles) = omega (arith, cut, more) in
        fewer_settle pattern coding cast role lawful cast_is four (λ r is. fewer r role (record { lawful = lawful; cast_is = cast_is; is = is; four = four }) found.1 more))
  ]

  bounded : (n : ℕ) (cast : Cast) → length cast.roles ≤ n → IsCastOf pattern cast → HasRolesInOrder bound cast → HasLeast bound least cast → IsSettled (instance_of pattern coding cast)
  bounded zero cast le cast_is order has = by_fewer cast cast_is order has (λ r role can lt more. absurd (let shorter = without_length r role cast.roles can.is in omega (arith, shorter, le)))
  bounded (suc n) cast le cast_is order has = by_fewer cast cast_is order has (λ r role can lt more.
      bounded n (restricted r cast) (let shorter = without_length r role cast.roles can.is in omega (arith, shorter, le)) (fewer_cast cast r role can) (restricted_order bound r cast order)
      (enough_left cast r role can.is lt more has))

pub ordered_suffice : OrderedSuffice
ordered_suffice pattern coding bound least most lawful allow small cast cast_is order has =
    bounded pattern coding bound least most lawful allow small (length cast.roles) cast (omega arith) cast_is order has
