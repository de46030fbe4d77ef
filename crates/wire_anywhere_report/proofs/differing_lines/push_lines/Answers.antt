use Rattle.std.proofs.Common.{ap, sym, flat_map}
use Rattle.std.proofs.lemmas.List.{drop_all}
use Rattle.wire_types.specs.Forms.{has_places}
use Rattle.wire_types.specs.Texts.{lists_of}
use Rattle.wire_report.proofs.Appended.{next_text, none_left}
use Rattle.wire_anywhere_report.specs.Differing.{differs_line}
use Rattle.wire_anywhere_report.proofs.differing_lines.push_lines.Goals as goal

pub loop-one-preserved : goal.loop-one-preserved
loop-one-preserved c =
    next_text (differs_line (has_places c.args.form) c.args.places.name.now (lists_of c.args.places.rows.now) c.args.scripts.now) c.args.differing.now c.loop-one.one-index _ _ _ _
    c.loop-one-test.true c.loop-one.invariant c.in_ok-push_line.ensures

pub returns : goal.returns
returns c =
    none_left _ _ _ (ap (flat_map (differs_line (has_places c.args.form) c.args.places.name.now (lists_of c.args.places.rows.now) c.args.scripts.now))
    (drop_all c.loop-one.one-index c.args.differing.now c.loop-one-test.false)) (sym c.loop-one.invariant)
