-- What following the lines of a run's steps writes.
use Rattle.std.specs.Prelude.{◌≡◌, ℕ, Bool, List, Option, Some, Ok, ◌⊎◌}
use Rattle.std.specs.Io.KnownBytes.{Appends}
use Rattle.wire_types.specs.declared.Fault.{Fault}
use Rattle.wire_types.specs.declared.Fault.TheVariants.{Memory, Read}
use Rattle.wire_scripts.specs.Scripts.{Scripts}
use Rattle.wire_scripts.specs.Planned.{plan_of}
use Rattle.wire_runs.specs.State.{start}
use Rattle.wire_runs.specs.Step.{IsInterleaving}
use Rattle.wire_reader.specs.declared.Size.{Size}
use Rattle.wire_reader.specs.Reads.{Reads}
use Rattle.wire_commands.specs.Follow.{WritesFollowed, StopsBefore, report_after}
use Rattle.wire_text_laws.specs.Again.{steps_text, FitsOrder}

-- the file and the lines of these steps, followed: what is written is the report of the run of these steps, and nothing
-- that the file or the lines say stops it
pub record IsFollowed (size : Size) (bytes : List ℕ) (s : Scripts) (steps : List ℕ) : Type 0 where
  pub writes : (json : Bool) (old new : Option (List ℕ)) → WritesFollowed size json (Some bytes) (Some (steps_text s steps)) old new →
      Appends old new (report_after json s steps)
  pub stops : (fault : Fault) → StopsBefore size (Some bytes) (Some (steps_text s steps)) fault → (fault ≡ Memory) ⊎ (fault ≡ Read)

-- of scripts that were read: the lines of the steps of an interleaving are followed to the report of this interleaving
abbrev pub OrderIsFollowed : Type 0
OrderIsFollowed = (size : Size) (bytes : List ℕ) (s : Scripts) (steps : List ℕ) → Reads size bytes (Ok s) →
    IsInterleaving (plan_of s) start steps → FitsOrder size s steps →
    IsFollowed size bytes s steps
