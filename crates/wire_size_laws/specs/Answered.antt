-- What the answers of an instance tell of instances with fewer ranks.
use Rattle.std.specs.Prelude.{◌≡◌, ℕ, ◌≤◌, ◌⊎◌, ◌↔◌, Some, length, slice_get}
use Rattle.wire_runs.specs.Plan.{Plan, Event, Kind, LookupWait, kind}
use Rattle.wire_runs.specs.State.{State, IsDone}
use Rattle.wire_runs.specs.Step.{IsEnd, IsReachable}
use Rattle.wire_runs.specs.Order.{PublishesOnce, Live}
use Rattle.wire_runs.specs.Races.{IsSettled}
use Rattle.wire_runs.specs.Laws.{plain_end}
use Rattle.wire_runs.specs.Embeddings.{image}
use Rattle.wire_runs.specs.Patterns.{Pattern, Coding, Cast, group, instance_of, IsLawful, IsCastOf}
use Rattle.wire_runs.specs.Restrictions.{restricted, removal, CanGo}
use Rattle.wire_pattern_laws.specs.Ordered.{HasRolesInOrder}

-- each lookup-wait is of a name that is published once and that no call takes away
abbrev pub WaitsForOne : Plan → Type 0
WaitsForOne plan = (y : Event) (name : ℕ) → kind plan y ≡ Some (LookupWait name) → (x : Event) × PublishesOnce plan x name

-- where a run can't go on, exactly the live events have happened
abbrev pub LiveHappens : Type 0
LiveHappens = (plan : Plan) (s : State) (y : Event) → IsSettled plan → WaitsForOne plan → IsReachable plan s → IsEnd plan s
    → IsDone s y ↔ Live plan y

-- where the plain run can't go on, and so in every end of a settled plan, every event has happened: no rank waits
abbrev pub IsAnswered : Plan → Type 0
IsAnswered plan = (y : Event) (k : Kind) → kind plan y ≡ Some k → IsDone (plain_end plan) y

-- what has not happened in the plain run of the instance without r has not happened with it
abbrev pub WaitsInMore : Type 0
WaitsInMore = (pattern : Pattern) (coding : Coding) (cast : Cast) (r role : ℕ) (y : Event) → CanGo pattern cast r role
    → IsSettled (instance_of pattern coding (restricted r cast)) → WaitsForOne (instance_of pattern coding (restricted r cast))
    → ¬ (IsDone (plain_end (instance_of pattern coding (restricted r cast))) y)
    → ¬ (IsDone (plain_end (instance_of pattern coding cast)) (image (removal pattern coding cast r role) y))

abbrev pub FewerAnswered : Type 0
FewerAnswered = (pattern : Pattern) (coding : Coding) (cast : Cast) (r role : ℕ) → CanGo pattern cast r role
    → IsSettled (instance_of pattern coding (restricted r cast)) → WaitsForOne (instance_of pattern coding (restricted r cast))
    → IsAnswered (instance_of pattern coding cast) → IsAnswered (instance_of pattern coding (restricted r cast))

abbrev pub FewerWaitForOne : Type 0
FewerWaitForOne = (pattern : Pattern) (coding : Coding) (cast : Cast) (role : ℕ) → IsLawful pattern → IsCastOf pattern cast
    → 4 ≤ length (group role cast.roles)
    → ((r : ℕ) → slice_get cast.roles r ≡ Some role → WaitsForOne (instance_of pattern coding (restricted r cast)))
    → WaitsForOne (instance_of pattern coding cast)

-- so many processes of each role
abbrev pub HasSizes : (ℕ → ℕ) → Cast → Type 0
HasSizes sizes cast = (role : ℕ) → length (group role cast.roles) ≡ sizes role

-- the instances in the order of the roles, with so many processes of each role, whatever turns they take and on whatever
-- nodes: nothing is found, and each lookup-wait is of a name that is published once
abbrev pub AreSettled : Pattern → Coding → ℕ → (ℕ → ℕ) → Type 0
AreSettled pattern coding bound sizes = (cast : Cast) → IsCastOf pattern cast → HasRolesInOrder bound cast → HasSizes sizes cast
    → IsSettled (instance_of pattern coding cast) × WaitsForOne (instance_of pattern coding cast)

-- and every call is answered
abbrev pub AreAnswered : Pattern → Coding → ℕ → (ℕ → ℕ) → Type 0
AreAnswered pattern coding bound sizes = (cast : Cast) → IsCastOf pattern cast → HasRolesInOrder bound cast → HasSizes sizes cast
    → IsAnswered (instance_of pattern coding cast)

-- of each role as many, or fewer but three at least
abbrev pub AreFewer : ℕ → (sizes most : ℕ → ℕ) → Type 0
AreFewer bound sizes most =
    ((role : ℕ) → (sizes role ≡ most role) ⊎ ((3 ≤ sizes role) × (sizes role ≤ most role)))
    × ((role : ℕ) → bound ≤ role → sizes role ≡ most role)

-- where every call of the instances with the most processes is answered, so is every call of those with fewer
abbrev pub LargestTells : Type 0
LargestTells = (pattern : Pattern) (coding : Coding) (bound : ℕ) (sizes most : ℕ → ℕ) → IsLawful pattern → AreFewer bound sizes most
    → ((between : ℕ → ℕ) → ((role : ℕ) → (sizes role ≤ between role) × (between role ≤ most role)) → AreSettled pattern coding bound between)
    → AreAnswered pattern coding bound most → AreAnswered pattern coding bound sizes
