-- What `plain` writes: the report of the plain run of what was to come from the reader.
use Rattle.std.specs.Prelude.{◌≡◌, ℕ, ◌<◌, List, Option, length, take}
use Rattle.std.specs.Io.KnownBytes.{Appends}
use Rattle.wire_scripts.specs.Scripts.{Scripts}
use Rattle.wire_reader.specs.declared.Size.{Size}
use Rattle.wire_core.specs.EndsAfter.{plain_ends}
use Rattle.wire_report.specs.Report.{report}
use Rattle.wire_command.specs.declared.ended.Ended.{Ended}
use Rattle.wire_command.specs.Read.{ReadAs}

-- the report of the plain run
abbrev pub plain_report : Scripts → List ℕ
plain_report scripts = report scripts (plain_ends scripts)

-- the text is that report
abbrev pub TellsPlain : Scripts → List (List ℕ) → List ℕ → Ended → Type 0
TellsPlain scripts rows text ended = text ≡ plain_report scripts

-- all of the report of what was to come went out
pub record WritesReport (size : Size) (coming old new : Option (List ℕ)) : Type 0 where
  pub scripts : Scripts
  pub read : ReadAs size coming scripts
  pub wrote : Appends old new (plain_report scripts)

-- exactly the first n bytes of the report of what was to come went out, which aren't all of it
pub record BreaksOffReport (size : Size) (coming old new : Option (List ℕ)) (n : ℕ) : Type 0 where
  pub scripts : Scripts
  pub read : ReadAs size coming scripts
  pub wrote : Appends old new (take n (plain_report scripts))
  pub short : n < length (plain_report scripts)
