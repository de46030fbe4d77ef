use Rattle.std.proofs.Common.{refl}
use Rattle.wire_reader.proofs.Parsing.{is_said}
use Rattle.wire_reader.proofs.pieces.parse_line.Goals as goal

pub returns : goal.returns
returns c = (refl, is_said _ _ c.in_ok-said.ensures.found c.in_ok-said.ensures.none)
