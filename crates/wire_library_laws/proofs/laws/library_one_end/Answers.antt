use Rattle.wire_library_laws.proofs.Stuck.{library_one_end}
use Rattle.wire_library_laws.proofs.laws.library_one_end.Goals as goal

pub returns : goal.returns
returns c = library_one_end
