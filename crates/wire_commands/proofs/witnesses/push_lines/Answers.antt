use Rattle.std.proofs.Common.{ap, sym, refl}
use Rattle.std.proofs.lemmas.List.{drop_all}
use Rattle.std.specs.List.{flat_map}
use Rattle.wire_report.proofs.Appended.{next_text, none_left}
use Rattle.wire_commands.specs.Witnesses.{race_line}
use Rattle.wire_commands.proofs.witnesses.push_lines.Goals as goal

pub loop-one-init : goal.loop-one-init
loop-one-init c = refl

pub loop-one-preserved : goal.loop-one-preserved
loop-one-preserved c =
    next_text (race_line c.args.scripts.now) c.args.tried.now c.loop-one.one-index _ _ _ _ c.loop-one-test.true c.loop-one.invariant c.in_ok-push_tried.ensures

pub returns : goal.returns
returns c = none_left _ _ _ (ap (flat_map (race_line c.args.scripts.now)) (drop_all c.loop-one.one-index c.args.tried.now c.loop-one-test.false)) (sym c.loop-one.invariant)
