use Rattle.std.proofs.lemmas.Option.{slice_get-get_or}
use Rattle.wire_happens_before.proofs.joins.arrival_at.Goals as goal

pub returns : goal.returns
returns c = slice_get-get_or c.args.arrivals.now c.args.k _ c.requires
