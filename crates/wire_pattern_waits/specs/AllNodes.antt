-- The same calls wait on all nodes.
use Rattle.std.specs.Prelude.{◌≡◌, ◌↔◌, ℕ, List, Some, Ok, slice_get}
use Rattle.wire_scripts.specs.Scripts.{Scripts}
use Rattle.wire_scripts.specs.Placed.{moved}
use Rattle.wire_reader.specs.declared.Size.TheVariants.{OfVersion}
use Rattle.wire_reader.specs.Reads.{Reads}
use Rattle.wire_pattern.specs.Pattern.{Pattern}
use Rattle.wire_pattern.specs.Instances.{Cast, instance_text}
use Rattle.wire_cutoff.specs.Selections.{Selection, selections}
use Rattle.wire_pattern_waits.specs.Stops.{StuckAt}
use Rattle.wire_pattern_waits.specs.Waits.{alone, StopsIn, Waits}

-- on whatever nodes the processes of scripts are, they wait at the same call lines
abbrev pub StopsOnAllNodes : Type 0
StopsOnAllNodes = (p : Pattern) (cast : Cast) (scripts : Scripts) (names : List (List ℕ)) (nodes : ℕ → ℕ) (role line : ℕ)
    → StuckAt p cast (moved scripts names nodes) role line ↔ StuckAt p cast scripts role line

-- in the instance of this selection, its processes on these nodes, a process of the role stands at the call line of
-- this number where the plain run can't go on
pub record StopsOn (p : Pattern) (selection : Selection) (names : List (List ℕ)) (nodes : ℕ → ℕ) (role line : ℕ) : Type 0 where
  pub scripts : Scripts
  pub reads : Reads OfVersion (instance_text p (alone p selection)) (Ok scripts)
  pub stops : StuckAt p (alone p selection) (moved scripts names nodes) role line

-- so it is in the instance of some selection that is judged
pub record WaitsOn (p : Pattern) (names : List (List ℕ)) (nodes : ℕ → ℕ) (role line : ℕ) : Type 0 where
  pub number : ℕ
  pub selection : Selection
  pub is : slice_get (selections p) number ≡ Some selection
  pub stops : StopsOn p selection names nodes role line

-- with each process on a node of its own, and on these nodes, the same stops in each instance, and the same waits
pub record WaitsAlike (p : Pattern) (names : List (List ℕ)) (nodes : ℕ → ℕ) (role line : ℕ) : Type 0 where
  pub in_each : (selection : Selection) → StopsOn p selection names nodes role line ↔ StopsIn p selection role line
  pub in_some : WaitsOn p names nodes role line ↔ Waits p role line

-- so on all nodes something waits at exactly the same call lines
abbrev pub WaitsOnAllNodes : Type 0
WaitsOnAllNodes = (p : Pattern) (names : List (List ℕ)) (nodes : ℕ → ℕ) (role line : ℕ) → WaitsAlike p names nodes role line
