use Rattle.wire_library_laws.proofs.Anywhere.{library_anywhere}
use Rattle.wire_library_laws.proofs.laws.library_anywhere.Goals as goal

pub returns : goal.returns
returns c = library_anywhere
