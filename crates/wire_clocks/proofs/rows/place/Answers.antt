use Rattle.std.proofs.Common.{◌/◌, ap}
use Rattle.wire_clocks.proofs.Growing.{pow_four}
use Rattle.wire_clocks.proofs.rows.place.Goals as goal

pub returns : goal.returns
returns c = ap (λ n. c.args.process / n) (pow_four c.args.level)
