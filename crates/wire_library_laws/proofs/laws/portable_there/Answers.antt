use Rattle.wire_library_laws.proofs.Anywhere.{placed_portable}
use Rattle.wire_library_laws.proofs.laws.portable_there.Goals as goal

pub returns : goal.returns
returns c = placed_portable
