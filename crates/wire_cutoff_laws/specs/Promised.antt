-- What is judged of a pattern, and what that promises.
use Rattle.std.specs.Prelude.{◌≡◌, ℕ, Bool, List, length}
use Rattle.wire_runs.specs.Patterns as plan
use Rattle.wire_runs.specs.Patterns.{Coding, instance_of, IsCastOf}
use Rattle.wire_runs.specs.Races.{IsSettled}
use Rattle.wire_runs.specs.Laws.{HasOneEnd}
use Rattle.wire_pattern.specs.Pattern.{Pattern}
use Rattle.wire_pattern.specs.Lawful.{IsSoundPattern}
use Rattle.wire_pattern.specs.Planned.{pattern_of, least_of}
use Rattle.wire_pattern.specs.Instances.{Turn}
use Rattle.wire_pattern_laws.specs.Ordered.{HasRolesInOrder, HasLeast}
use Rattle.wire_cutoff_laws.specs.Sizes.{AreFewSizes}
use Rattle.wire_cutoff_laws.specs.Choices.{optional_turns, chosen_by, cast_on}

-- on all nodes the instance with so many processes of each role and these turns has nothing to find
abbrev pub IsChoiceSettled : Pattern → List ℕ → List (Turn × Bool) → Type 0
IsChoiceSettled p sizes chosen =
    (coding : Coding) (nodes : ℕ → ℕ) → IsSettled (instance_of (pattern_of p) coding (cast_on sizes chosen nodes))

-- with so many processes of each role, whichever of the turns are taken
abbrev pub AreSizesSettled : Pattern → List ℕ → Type 0
AreSizesSettled p sizes =
    (bits : List Bool) → length bits ≡ length (optional_turns p sizes) → IsChoiceSettled p sizes (chosen_by (optional_turns p sizes) bits)

-- with few processes of each role
abbrev pub AreFewSettled : Pattern → Type 0
AreFewSettled p = (sizes : List ℕ) → AreFewSizes p.roles sizes → AreSizesSettled p sizes

-- the processes of an instance: each role has its least number of them at least, in the order of the roles
pub record IsAnyCast (p : Pattern) (cast : plan.Cast) : Type 0 where
  pub is : IsCastOf (pattern_of p) cast
  pub in_order : HasRolesInOrder (length p.roles) cast
  pub least : HasLeast (length p.roles) (least_of p) cast

-- with any number of processes of each role, on any nodes, nothing is found
abbrev pub IsSettledForAll : Pattern → Type 0
IsSettledForAll p = (coding : Coding) (cast : plan.Cast) → IsAnyCast p cast → IsSettled (instance_of (pattern_of p) coding cast)

-- and every interleaving that can't go on ends in one state
abbrev pub HasOneEndForAll : Pattern → Type 0
HasOneEndForAll p = (coding : Coding) (cast : plan.Cast) → IsAnyCast p cast → HasOneEnd (instance_of (pattern_of p) coding cast)

-- few processes of each role tell of any number
abbrev pub CutoffSuffices : Type 0
CutoffSuffices = (p : Pattern) → IsSoundPattern p → AreFewSettled p → IsSettledForAll p × HasOneEndForAll p
