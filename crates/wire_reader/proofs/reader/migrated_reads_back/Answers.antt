use Rattle.wire_reader.proofs.Migrated.{migrated_reads_back}
use Rattle.wire_reader.proofs.reader.migrated_reads_back.Goals as goal

pub returns : goal.returns
returns c = migrated_reads_back
