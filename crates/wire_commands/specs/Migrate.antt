-- What `migrate` writes: the canonical text of what was to come from the reader, under version 2 of the format.
use Rattle.std.specs.Prelude.{◌≡◌, ◌⊎◌, ℕ, ◌≤◌, List, Option, Ok, length}
use Rattle.std.specs.Io.KnownBytes.{Appends}
use Rattle.wire_types.specs.declared.Fault.{Fault}
use Rattle.wire_types.specs.declared.Fault.TheVariants.{Memory, Read}
use Rattle.wire_types.specs.declared.OutputFormat.TheVariants.{Lines}
use Rattle.wire_scripts.specs.Scripts.{Scripts, under_version_2}
use Rattle.wire_scripts.specs.Canonical.{canonical}
use Rattle.wire_scripts.specs.Planned.{plan_of}
use Rattle.wire_reader.specs.declared.Size.{Size}
use Rattle.wire_reader.specs.Limits.{file_bytes}
use Rattle.wire_reader.specs.Reads.{Reads}
use Rattle.wire_command.specs.declared.ended.Ended.{Ended}
use Rattle.wire_command.specs.Read.{ReadAs, Refuses}
use Rattle.wire_command.specs.Answer.{BreaksOff}

-- the text of scripts under version 2
abbrev pub migrated_text : Scripts → List ℕ
migrated_text scripts = canonical (under_version_2 scripts)

-- the scripts under version 2 are the same plan, with the same findings and outcomes, and their text reads as them,
-- where it is within the limit of a file
pub record IsMigrated (size : Size) (scripts : Scripts) : Type 0 where
  pub plan : plan_of (under_version_2 scripts) ≡ plan_of scripts
  pub back : length (migrated_text scripts) ≤ file_bytes size → Reads size (migrated_text scripts) (Ok (under_version_2 scripts))

-- all of the text of what was to come went out
pub record WritesMigrated (size : Size) (coming old new : Option (List ℕ)) : Type 0 where
  pub scripts : Scripts
  pub read : ReadAs size coming scripts
  pub migrated : IsMigrated size scripts
  pub wrote : Appends old new (migrated_text scripts)

-- the text is that of the scripts under version 2
abbrev pub TellsMigrated : Scripts → List (List ℕ) → List ℕ → Ended → Type 0
TellsMigrated scripts rows text ended = text ≡ migrated_text scripts

-- exactly as many bytes of it went out as the fault says, which aren't all of it
abbrev pub BreaksOffMigrated : Size → (coming old new : Option (List ℕ)) → Fault → Type 0
BreaksOffMigrated size coming old new fault = BreaksOff size Lines coming TellsMigrated old new fault

-- why nothing is written: memory ran out, a read failed, or the file is refused
abbrev pub StopsBeforeMigrated : Size → Option (List ℕ) → Fault → Type 0
StopsBeforeMigrated size coming fault = (fault ≡ Memory) ⊎ ((fault ≡ Read) ⊎ Refuses size coming fault)
