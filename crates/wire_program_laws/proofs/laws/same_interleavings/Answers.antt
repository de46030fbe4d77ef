use Rattle.wire_program_laws.proofs.Going.{same_interleavings}
use Rattle.wire_program_laws.proofs.laws.same_interleavings.Goals as goal

pub returns : goal.returns
returns c = same_interleavings
