-- Whether every call of the instances that are judged succeeds: is answered PMIX_SUCCESS, both with each process on a node
-- of its own and with all on one.
use Rattle.std.specs.Prelude.{◌≡◌, ◌&&◌, ℕ, Bool, true, false, [], Some, Ok, slice_get}
use Rattle.wire_scripts.specs.Scripts.{Scripts}
use Rattle.wire_scripts.specs.Planned.{plan_of}
use Rattle.wire_scripts.specs.Placed.{placed}
use Rattle.wire_runs.specs.Placings.{IsSettledAnywhere}
use Rattle.wire_reader.specs.declared.Size.TheVariants.{OfVersion}
use Rattle.wire_reader.specs.Reads.{Reads}
use Rattle.wire_pattern.specs.Pattern.{Pattern}
use Rattle.wire_pattern.specs.Instances.{Cast, instance_text}
use Rattle.wire_pattern_waits.specs.Waits.{alone}
use Rattle.wire_cutoff.specs.Selections.{Selection, selections}
use Rattle.wire_pattern_stages.specs.Succeeding.{all_succeed, some_puts_remote}

-- every call succeeds on the nodes where the processes are, and with all processes on one node
abbrev pub succeed_on_both : Scripts → Bool
succeed_on_both scripts = all_succeed scripts && all_succeed (placed scripts [])

-- the text of this instance reads as scripts of which this is so, or isn't
pub record IsCastTold (p : Pattern) (cast : Cast) (succeeding : Bool) : Type 0 where
  pub scripts : Scripts
  pub reads : Reads OfVersion (instance_text p cast) (Ok scripts)
  pub is : succeeding ≡ succeed_on_both scripts

-- the same of a selection that is judged
abbrev pub IsSelectionTold : Pattern → Selection → Bool → Type 0
IsSelectionTold p selection succeeding = IsCastTold p (alone p selection) succeeding

-- every call of the instance of each selection that is judged succeeds
abbrev pub AllSucceed : Pattern → Type 0
AllSucceed p = (number : ℕ) (selection : Selection) → slice_get (selections p) number ≡ Some selection → IsSelectionTold p selection true

-- a call of one of them doesn't
pub record SomeFails (p : Pattern) : Type 0 where
  pub number : ℕ
  pub selection : Selection
  pub is : slice_get (selections p) number ≡ Some selection
  pub fails : IsSelectionTold p selection false

-- which of the two is so
abbrev pub IsSuccessTold : Pattern → Bool → Type 0
IsSuccessTold p true = AllSucceed p
IsSuccessTold p false = SomeFails p

-- where nothing is found on any nodes, and no key is put for other nodes alone: what succeeds on the nodes where the
-- processes are succeeds with all of them on one
abbrev pub SucceedTogether : Type 0
SucceedTogether = (s : Scripts) → IsSettledAnywhere (plan_of s) → some_puts_remote s ≡ false → all_succeed s ≡ true → all_succeed (placed s []) ≡ true

-- the rest is for private contracts alone

-- every call of the instance of this selection succeeds with each process on a node of its own
abbrev pub SucceedsIn : Pattern → Selection → Type 0
SucceedsIn p selection = (scripts : Scripts) → Reads OfVersion (instance_text p (alone p selection)) (Ok scripts) → all_succeed scripts ≡ true

-- so it is in the instance of each selection that is judged
abbrev pub AllSucceedApart : Pattern → Type 0
AllSucceedApart p = (number : ℕ) (selection : Selection) → slice_get (selections p) number ≡ Some selection → SucceedsIn p selection
