-- Where the small instances of a pattern are answered and their stages rise, all instances are.
use Rattle.std.proofs.Common.{◌≡◌, ℕ, zero, suc, ◌<◌, ◌≤◌, length, Some, inl, inr, sym, ap, ◌∙◌, arith}
use Rattle.std.specs.Prelude.{slice_get}
use Rattle.wire_runs.specs.Plan.{Plan}
use Rattle.wire_runs.specs.Order.{may_come}
use Rattle.wire_runs.specs.Races.{IsSettled}
use Rattle.wire_runs.specs.Patterns.{Pattern, Coding, Cast, group, instance_of, IsLawful, IsCastOf}
use Rattle.wire_runs.specs.Restrictions.{restricted, CanGo}
use Rattle.wire_runs.proofs.Due.{live_may}
use Rattle.wire_runs.proofs.SmallInstances.{without_length}
use Rattle.wire_pattern_laws.specs.Ordered.{HasRolesInOrder, HasLeast, HasMost, AllowThree, SmallOnesAreSettled}
use Rattle.wire_pattern_laws.proofs.SmallOrdered.{restricted_order, look, fewer_cast, enough_left}
use Rattle.wire_size_laws.specs.Answered.{WaitsForOne, IsAnswered}
use Rattle.wire_size_laws.specs.Stages.{Stages, IsStaged, IsStagedWell, StagedAnswered}
use Rattle.wire_size_laws.proofs.Fewer.{done_live, live_done, fewer_wait_for_one}
use Rattle.wire_size_laws.proofs.Staged.{AllMay, staged_live, staged_up, may_up}

answered_may : (plan : Plan) → IsAnswered plan → AllMay plan
answered_may plan all y k is = ap (may_come plan y) (sym is) ∙ live_may (done_live plan y (all y k is))

-- what goes up
record GoesUp (stages : Stages) (pattern : Pattern) (coding : Coding) (cast : Cast) : Type 0 where
  pub may : AllMay (instance_of pattern coding cast)
  pub one : WaitsForOne (instance_of pattern coding cast)
  pub staged : IsStaged stages pattern coding cast

module _ (stages : Stages) (pattern : Pattern) (coding : Coding) (bound : ℕ) (least most : ℕ → ℕ) (lawful : IsLawful pattern) (allow : AllowThree bound least most)
    (settled : (cast : Cast) → IsCastOf pattern cast → HasRolesInOrder bound cast → HasLeast bound least cast → IsSettled (instance_of pattern coding cast))
    (small : (cast : Cast) → IsCastOf pattern cast → HasRolesInOrder bound cast → HasLeast bound least cast → HasMost bound most cast → IsStagedWell stages pattern coding cast) where
  small_settled : SmallOnesAreSettled pattern coding bound least most
  small_settled cast cast_is order has few = settled cast cast_is order has

  by_fewer : (cast : Cast) → IsCastOf pattern cast → HasRolesInOrder bound cast → HasLeast bound least cast
      → ((r role : ℕ) → CanGo pattern cast r role → role < bound → most role < length (group role cast.roles) → GoesUp stages pattern coding (restricted r cast))
      → GoesUp stages pattern coding cast
  by_fewer cast cast_is order has fewer = elim (look pattern coding bound least most lawful allow small_settled cast bound (omega arith)) [
    | inr rest ↦ (
        let w = small cast cast_is order has rest in
        record { may = answered_may (instance_of pattern coding cast) w.answered; one = w.one; staged = w.staged })
    | inl found ↦ (
        let role = found.0 in
        let more = found.2 in
        let cut = (allow role found.1).0 in
        let four : 4 ≤ length (group role cast.roles) = omega (arith, cut, more) in
        let up : (r : ℕ) → slice_get cast.roles r ≡ Some role → GoesUp stages pattern coding (restricted r cast) = λ r is.
        fewer r role (record { lawful = lawful; cast_is = cast_is; is = is; four = four }) found.1 more in
        record {
          may = may_up pattern coding cast role lawful cast_is four (λ r is. (up r is).may);
          one = fewer_wait_for_one pattern coding cast role lawful cast_is four (λ r is. (up r is).one);
          staged = staged_up pattern coding cast role lawful cast_is four stages (λ r is. (up r is).staged);
        })
  ]

  bounded : (n : ℕ) (cast : Cast) → length cast.roles ≤ n → IsCastOf pattern cast → HasRolesInOrder bound cast → HasLeast bound least cast → GoesUp stages pattern coding cast
  bounded zero cast le cast_is order has = by_fewer cast cast_is order has (λ r role can lt more. absurd (let shorter = without_length r role cast.roles can.is in omega (arith, shorter, le)))
  bounded (suc n) cast le cast_is order has = by_fewer cast cast_is order has (λ r role can lt more.
      bounded n (restricted r cast) (let shorter = without_length r role cast.roles can.is in omega (arith, shorter, le))
      (fewer_cast pattern coding bound least most lawful allow small_settled cast r role can) (restricted_order bound r cast order)
      (enough_left pattern coding bound least most lawful allow small_settled cast r role can.is lt more has))

pub staged_answered : StagedAnswered
staged_answered stages pattern coding bound least most lawful allow settled small cast cast_is order has y k is =
    let up = bounded stages pattern coding bound least most lawful allow settled small (length cast.roles) cast (omega arith) cast_is order has in
    live_done (instance_of pattern coding cast) (settled cast cast_is order has) up.one y (staged_live stages pattern coding cast up.staged up.may y k is)

-- and each lookup-wait of all instances is of a name that is published once
pub all_wait_for_one : (stages : Stages) (pattern : Pattern) (coding : Coding) (bound : ℕ) (least most : ℕ → ℕ) → IsLawful pattern → AllowThree bound least most
    → ((cast : Cast) → IsCastOf pattern cast → HasRolesInOrder bound cast → HasLeast bound least cast → IsSettled (instance_of pattern coding cast))
    → ((cast : Cast) → IsCastOf pattern cast → HasRolesInOrder bound cast → HasLeast bound least cast → HasMost bound most cast → IsStagedWell stages pattern coding cast)
    → (cast : Cast) → IsCastOf pattern cast → HasRolesInOrder bound cast → HasLeast bound least cast → WaitsForOne (instance_of pattern coding cast)
all_wait_for_one stages pattern coding bound least most lawful allow settled small cast cast_is order has =
    (bounded stages pattern coding bound least most lawful allow settled small (length cast.roles) cast (omega arith) cast_is order has).one
