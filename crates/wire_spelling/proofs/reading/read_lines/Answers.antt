use Rattle.std.proofs.Common.{sym, ◌∙◌, eqb-true}
use Rattle.wire_spelling.specs.Spelled.{said_by}
use Rattle.wire_spelling.proofs.ReadSets.{line_read, none_read, all_read}
use Rattle.wire_spelling.proofs.reading.read_lines.Goals as goal

pub lines-init : goal.lines-init
lines-init c = none_read c.nothing-reading.result c.args.text.now c.nothing-reading.ensures

pub take-requires : goal.take-requires
take-requires c = c.lines.invariant.read.known

pub lines-preserved : goal.lines-preserved
lines-preserved c =
    line_read c.lines.reading c.take.new.self (said_by c.in_ok-said.said) c.lines.rest.now c.cut_piece.result.1.now c.cut_piece.result.0.now c.args.text.now
    c.cut_piece.ensures.pieces c.in_ok-said.ensures c.in_ok-take.ensures c.lines.invariant

pub returns : goal.returns
returns c = all_read c.lines.reading c.lines.rest.now c.args.text.now (eqb-true _ _ (sym c.is_empty.ensures ∙ c.lines-test.false)) c.lines.invariant
