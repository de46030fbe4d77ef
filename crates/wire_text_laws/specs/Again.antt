-- What was written is read again: the order of a run's steps.
use Rattle.std.specs.Prelude.{◌≡◌, ◌≤◌, ℕ, List, length, Ok, ⊤}
use Rattle.std.specs.List.{flat_map}
use Rattle.wire_scripts.specs.Scripts.{Scripts}
use Rattle.wire_scripts.specs.Planned.{plan_of}
use Rattle.wire_runs.specs.State.{start}
use Rattle.wire_runs.specs.Step.{IsInterleaving}
use Rattle.wire_reader.specs.declared.Size.{Size}
use Rattle.wire_reader.specs.declared.Size.TheVariants.{OfVersion, Large}
use Rattle.wire_reader.specs.Limits.{order_bytes}
use Rattle.wire_reader.specs.Reads.{Reads}
use Rattle.wire_reader.specs.Order.{order_read}
use Rattle.wire_report.specs.Unsettled.{step_line}

-- the lines of these steps, as a replay writes them
abbrev pub steps_text : Scripts → List ℕ → List ℕ
steps_text scripts steps = flat_map (step_line scripts) steps

-- the text reads as an order of these steps of the scripts, and of no others
pub record ReadsAsOrder (size : Size) (scripts : Scripts) (text steps : List ℕ) : Type 0 where
  pub reads : order_read size scripts text ≡ Ok steps
  pub only : (others : List ℕ) → order_read size scripts text ≡ Ok others → others ≡ steps

-- the lines of these steps are within the limit of an order: by the limits of each version they always are
abbrev pub FitsOrder : Size → Scripts → List ℕ → Type 0
FitsOrder OfVersion scripts steps = ⊤
FitsOrder Large scripts steps = length (steps_text scripts steps) ≤ order_bytes Large

-- of scripts that were read: the lines of the steps of an interleaving read as an order of these steps
abbrev pub OrderReadsBack : Type 0
OrderReadsBack = (size : Size) (bytes : List ℕ) (s : Scripts) (steps : List ℕ) → Reads size bytes (Ok s) →
    IsInterleaving (plan_of s) start steps → FitsOrder size s steps →
    ReadsAsOrder size s (steps_text s steps) steps
