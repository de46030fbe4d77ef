-- With which statuses the get-nows of a line are answered: in instances of any size with those of the small ones.
use Rattle.std.specs.Prelude.{◌≡◌, ℕ, Some, slice_get}
use Rattle.wire_types.specs.declared.Status.{Status}
use Rattle.wire_runs.specs.Plan.{Event, GetNow, kind}
use Rattle.wire_runs.specs.State.{Answer, State}
use Rattle.wire_runs.specs.Step.{IsReachable}
use Rattle.wire_runs.specs.Order.{Live}
use Rattle.wire_runs.specs.Races.{IsSettled}
use Rattle.wire_runs.specs.Embeddings.{pair}
use Rattle.wire_runs.specs.Patterns.{Pattern, Coding, Cast, instance_of, IsLawful, IsCastOf}
use Rattle.wire_pattern_laws.specs.Ordered.{HasRolesInOrder, HasLeast, HasMost, AllowThree, SmallOnesAreSettled}
use Rattle.wire_pattern_laws.specs.Fuller.{IsFuller}
use Rattle.wire_pattern_laws.specs.Lines.{IsOfLine}
use Rattle.wire_pattern_laws.specs.Finds.{status_of, Finds}

-- a small instance, with each process on a node of its own but perhaps one on that of the get, has a live get-now of
-- line number n of the role that finds this
pub record HasSmall (pattern : Pattern) (coding : Coding) (bound : ℕ) (least most : ℕ → ℕ) (role n : ℕ)
    (found : Status) : Type 0 where
  pub cast : Cast
  pub cast_is : IsCastOf pattern cast
  pub in_order : HasRolesInOrder bound cast
  pub has_least : HasLeast bound least cast
  pub has_most : HasMost bound most cast
  pub get : Event
  pub mate : ℕ
  pub nodes : (p : ℕ) → cast.nodes p ≡ pair mate get.proc p
  pub of_line : IsOfLine pattern cast get role n
  pub owner : ℕ
  pub key : ℕ
  pub is : kind (instance_of pattern coding cast) get ≡ Some (GetNow owner key)
  pub is_live : Live (instance_of pattern coding cast) get
  pub finds : Finds (instance_of pattern coding cast) get owner key found

-- where the small instances are settled: whatever status a get-now is answered with in some run of an instance of any
-- size, a get-now of the same line finds in a small instance
abbrev pub StatusesOfSmall : Type 0
StatusesOfSmall = (pattern : Pattern) (coding : Coding) (bound : ℕ) (least most : ℕ → ℕ) → IsLawful pattern
    → AllowThree bound least most → SmallOnesAreSettled pattern coding bound least most
    → (cast : Cast) → IsCastOf pattern cast → HasRolesInOrder bound cast → HasLeast bound least cast
    → (s : State) → IsReachable (instance_of pattern coding cast) s
    → (get : Event) (role n owner key : ℕ) → IsOfLine pattern cast get role n
    → kind (instance_of pattern coding cast) get ≡ Some (GetNow owner key)
    → (a : Answer) → slice_get (s.replies get.proc) get.at ≡ Some a
    → HasSmall pattern coding bound least most role n (status_of a)

-- what a get-now finds in an instance, one of its line finds, and nothing else, where loops that only read take more
-- turns
pub record FindsInFuller (pattern : Pattern) (coding : Coding) (fuller : Cast) (role n owner key : ℕ)
    (found : Status) : Type 0 where
  pub get : Event
  pub of_line : IsOfLine pattern fuller get role n
  pub is : kind (instance_of pattern coding fuller) get ≡ Some (GetNow owner key)
  pub is_live : Live (instance_of pattern coding fuller) get
  pub finds : (other : Status) → Finds (instance_of pattern coding fuller) get owner key other → other ≡ found

abbrev pub ReadsFind : Type 0
ReadsFind = (pattern : Pattern) (coding : Coding) (cast fuller : Cast) → IsFuller pattern cast fuller
    → IsSettled (instance_of pattern coding fuller)
    → (get : Event) (role n owner key : ℕ) → IsOfLine pattern cast get role n
    → kind (instance_of pattern coding cast) get ≡ Some (GetNow owner key) → Live (instance_of pattern coding cast) get
    → (found : Status) → Finds (instance_of pattern coding cast) get owner key found
    → FindsInFuller pattern coding fuller role n owner key found
