-- The entries of a trail are the replies of the plain run.
use Rattle.std.proofs.Common.{◌∙◌, ap, arith}
use Rattle.std.proofs.lemmas.Option.{slice_get_within}
use Rattle.wire_runs.proofs.SoFar.{replies_are_plain}
use Rattle.wire_fates.specs.Fates.{fate_told}
use Rattle.wire_board.specs.PlainTrails.{TrailsArePlain}

pub trails_are_plain : TrailsArePlain
trails_are_plain plan words rank trail settled c fates long i fate at =
    let f = (fates i fate at).0 in
    let within = slice_get_within trail i fate at in
    let word = c.done rank in
    let plain = (replies_are_plain plan c.state settled c.reached).fates (record { proc = rank; at = i }) f.fate (omega (arith, within, long, word)) f.has in
    (plain.0, plain.1, f.is ∙ ap (fate_told plan) plain.2)
