use Rattle.wire_library_laws.proofs.Names.{names_once}
use Rattle.wire_library_laws.proofs.laws.names_once.Goals as goal

pub returns : goal.returns
returns c = names_once
