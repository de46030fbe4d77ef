use Rattle.std.proofs.Common.{ap, sym, refl, flat_map}
use Rattle.std.proofs.lemmas.List.{drop_all}
use Rattle.wire_report.specs.Chain.{dead_line}
use Rattle.wire_report.proofs.Appended.{next_text, none_left}
use Rattle.wire_report.proofs.chain_parts.push_dead_lines.Goals as goal

pub loop-call-preserved : goal.loop-call-preserved
loop-call-preserved c =
    next_text (dead_line c.args.scripts.now) c.args.dead.now c.loop-call.call-index _ _ _ _ c.loop-call-test.true c.loop-call.invariant c.in_ok-push_dead_line.ensures

pub loop-call-init : goal.loop-call-init
loop-call-init c = refl

pub returns : goal.returns
returns c = none_left _ _ _ (ap (flat_map (dead_line c.args.scripts.now)) (drop_all c.loop-call.call-index c.args.dead.now c.loop-call-test.false)) (sym c.loop-call.invariant)
