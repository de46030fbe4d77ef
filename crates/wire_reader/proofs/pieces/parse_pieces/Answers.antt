use Rattle.std.proofs.Common.{◌∙◌, ap}
use Rattle.rayon.proofs.ToStd.{slice-AllZip}
use Rattle.wire_reader.proofs.Parsing.{row_of, gathered}
use Rattle.wire_reader.proofs.pieces.parse_pieces.Goals as goal

pub returns : goal.returns
returns g c =
    let given = c.in_ok-collect.ensures in
    let chain = given.1 in
    let base = ap (λ it. it.base.slice.now) c.map.ensures.base ∙ ap (λ it. it.slice.now) c.with_min_len.ensures.base ∙ c.par_iter.ensures in
    gathered c.args.pieces.now given.0 c.in_ok-collect.field-0 (slice-AllZip chain.0 c.args.pieces.now (chain.1 ∙ base) row_of given.0 chain.2) given.2
