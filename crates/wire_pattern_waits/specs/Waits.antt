-- The call lines of a pattern at which something waits: in some instance that is judged a process stands there at the
-- end.
use Rattle.std.specs.Prelude.{◌≡◌, ◌↔◌, ℕ, Bool, true, List, [], Some, Ok, filter, slice_get, slice_index_or}
use Rattle.std.specs.List.{range_with_len}
use Rattle.wire_types.specs.declared.CallEnd.{CallEnd}
use Rattle.wire_types.specs.declared.CallEnd.TheVariants.{Replied}
use Rattle.wire_types.specs.declared.Reply.{Reply}
use Rattle.wire_scripts.specs.Scripts.{Scripts}
use Rattle.wire_reader.specs.declared.Size.TheVariants.{OfVersion}
use Rattle.wire_reader.specs.Reads.{Reads}
use Rattle.wire_core.specs.EndsAfter.{plain_ends}
use Rattle.wire_pattern.specs.Pattern.{Pattern}
use Rattle.wire_pattern.specs.Instances.{Cast, instance_text}
use Rattle.wire_cutoff_laws.specs.Sizes.{total_of}
use Rattle.wire_cutoff_laws.specs.Choices.{optional_turns, chosen_by}
use Rattle.wire_cutoff.specs.Selections.{Selection, selections}
use Rattle.wire_pattern_waits.specs.declared.lines.CallLine.{CallLine}
use Rattle.wire_pattern_waits.specs.Lines.{call_lines}
use Rattle.wire_pattern_waits.specs.Stops.{StuckAt}

-- the processes and the turns of a selection, each process on a node of its own
abbrev pub alone : Pattern → Selection → Cast
alone p selection = record {
  sizes = selection.sizes;
  chosen = chosen_by (optional_turns p selection.sizes) selection.taken;
  node_count = total_of selection.sizes;
  nodes = range_with_len 0 (total_of selection.sizes);
}

-- in the instance of this selection a process of the role stands at the call line of this number where the plain run
-- can't go on
pub record StopsIn (p : Pattern) (selection : Selection) (role line : ℕ) : Type 0 where
  pub scripts : Scripts
  pub reads : Reads OfVersion (instance_text p (alone p selection)) (Ok scripts)
  pub stops : StuckAt p (alone p selection) scripts role line

-- so it is in the instance of some selection that is judged
pub record Waits (p : Pattern) (role line : ℕ) : Type 0 where
  pub number : ℕ
  pub selection : Selection
  pub is : slice_get (selections p) number ≡ Some selection
  pub stops : StopsIn p selection role line

-- of all call lines of the pattern exactly those at which something waits, in their order
pub record AreWaiting (p : Pattern) (lines : List CallLine) : Type 0 where
  pub waits : ℕ → ℕ → Bool
  pub tells : (role line : ℕ) → (waits role line ≡ true) ↔ Waits p role line
  pub are : lines ≡ filter (λ line. waits line.role line.number) (call_lines p)

-- the text of the instance of this selection reads as a plan
abbrev pub ReadsAsPlan : Pattern → Selection → Type 0
ReadsAsPlan p selection = (scripts : Scripts) × Reads OfVersion (instance_text p (alone p selection)) (Ok scripts)

-- so does that of each selection that is judged
abbrev pub AllReadAsPlans : Pattern → Type 0
AllReadAsPlans p = (number : ℕ) (selection : Selection) → slice_get (selections p) number ≡ Some selection → ReadsAsPlan p selection

-- in the instance of each selection that is judged every call has its reply where the plain run can't go on
abbrev pub AllReplied : Pattern → Type 0
AllReplied p = (number : ℕ) (selection : Selection) (scripts : Scripts) (process call : ℕ) (end : CallEnd)
    → slice_get (selections p) number ≡ Some selection → Reads OfVersion (instance_text p (alone p selection)) (Ok scripts)
    → slice_get (slice_index_or (plain_ends scripts).rows process []) call ≡ Some end → (reply : Reply) × (end ≡ Replied reply)
