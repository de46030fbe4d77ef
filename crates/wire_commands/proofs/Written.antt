-- From what `migrate` tells to what it answers.
use Rattle.std.proofs.Common.{subst, ℕ, List, Option}
use Rattle.std.specs.Io.KnownBytes.{Appends}
use Rattle.wire_types.specs.declared.OutputFormat.TheVariants.{Lines}
use Rattle.wire_scripts.specs.Scripts.{Scripts}
use Rattle.wire_scripts.proofs.Migrated.{same_plan}
use Rattle.wire_reader.specs.declared.Size.{Size}
use Rattle.wire_reader.proofs.Migrated.{migrated_reads_back}
use Rattle.wire_command.specs.declared.ended.Ended.{Ended}
use Rattle.wire_command.specs.Read.{ReadAs}
use Rattle.wire_command.specs.Answer.{Writes}
use Rattle.wire_commands.specs.Migrate.{IsMigrated, TellsMigrated, WritesMigrated}

-- scripts that were read are the same plan under version 2, and their text reads back
is_migrated : (size : Size) (coming : Option (List ℕ)) (s : Scripts) → ReadAs size coming s → IsMigrated size s
is_migrated size coming s read = record { plan = same_plan s; back = λ small. migrated_reads_back size read.bytes s read.reads small }

-- all of the text went out
pub writes_migrated : (size : Size) (coming old new : Option (List ℕ)) (ended : Ended) → Writes size Lines coming TellsMigrated ended old new → WritesMigrated size coming old new
writes_migrated size coming old new ended told =
    let read : ReadAs size coming told.scripts = record { bytes = told.read.bytes; came = told.read.came; reads = told.read.reads } in
    record { scripts = told.scripts; read = read; migrated = is_migrated size coming told.scripts read; wrote = subst (λ t. Appends old new t) told.tells told.wrote }
