-- What the selections and counterexamples of the code say.
use Rattle.wire_pattern.specs.Pattern.{Pattern}
use Rattle.wire_pattern.specs.Instances.{Cast, process_count}
use Rattle.std.specs.Prelude.{◌≡◌, ◌<◌, ℕ, Some, slice_get}
use Rattle.wire_instances.specs.declared.cast.Nodes.{Nodes}
use Rattle.wire_instances.specs.Nodes.{ArePaired}
use Rattle.wire_instances.specs.Views.{cast_by}
use Rattle.wire_cutoff.specs.declared.selections.Selection.{Selection}
use Rattle.wire_cutoff.specs.declared.counterexample.Counterexample.{Counterexample}
use Rattle.wire_cutoff.specs.Selections as spec
use Rattle.wire_cutoff.specs.Selections.{IsCastFor}
use Rattle.wire_cutoff.specs.FirstNodes.{AreFirstNodes}
use Rattle.wire_cutoff.specs.Sharing.{IsPairSettled}
use Rattle.wire_cutoff.specs.Judged.{IsUnsettled, IsCounterexample, AreMoved}

abbrev pub selection_by : Selection → spec.Selection
selection_by selection = record { sizes = selection.sizes.items; taken = selection.taken.items }

-- no node is without a process: for private contracts alone
abbrev pub AreUsed : Nodes → Type 0
AreUsed nodes = (n : ℕ) → n < nodes.count → (v : ℕ) × (slice_get nodes.of.items v ≡ Some n)

-- it shows findings of this instance, maybe on other nodes: for private contracts alone
abbrev pub IsShownFor : Pattern → Cast → Counterexample → Type 0
IsShownFor p cast c = IsUnsettled p (cast_by c.cast) c.text.items c.plan c.findings.items × AreMoved cast (cast_by c.cast)

-- with the process a on one node with another, the first behind it with which something is found: for private contracts
-- alone
pub record IsShownBeside (p : Pattern) (cast : Cast) (a : ℕ) (c : Counterexample) : Type 0 where
  pub b : ℕ
  pub in_order : a < b
  pub there : b < process_count cast
  pub paired : ArePaired (process_count cast) a b c.cast.nodes
  pub before : (d : ℕ) → a < d → d < b → IsPairSettled p cast a d

-- it shows findings of the instance of this selection, on the first nodes on which something is found
pub record IsFoundAt (p : Pattern) (selection : spec.Selection) (c : Counterexample) : Type 0 where
  pub shows : IsUnsettled p (cast_by c.cast) c.text.items c.plan c.findings.items
  pub of : IsCastFor p selection (cast_by c.cast)
  pub nodes : AreFirstNodes p (cast_by c.cast) c.cast.nodes.of.items

-- it is the pattern's first
abbrev pub IsFoundFor : Pattern → Counterexample → Type 0
IsFoundFor p c = IsCounterexample p (cast_by c.cast) c.text.items c.plan c.findings.items
