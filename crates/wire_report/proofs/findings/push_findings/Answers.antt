use Rattle.std.proofs.Common.{ap, sym, refl, flat_map}
use Rattle.std.proofs.lemmas.List.{drop_all}
use Rattle.wire_report.specs.Findings.{finding_line}
use Rattle.wire_report.proofs.Appended.{then_more, next_text, none_left}
use Rattle.wire_report.proofs.findings.push_findings.Goals as goal

pub loop-finding-preserved : goal.loop-finding-preserved
loop-finding-preserved c =
    next_text (finding_line c.args.scripts.now) c.args.findings.now c.loop-finding.finding-index _ _ _ _ c.loop-finding-test.true c.loop-finding.invariant
    (then_more _ _ _ _ _ c.in_ok-push_finding.ensures.ok c.in_ok-extend_from_slice.ensures.items)

pub loop-finding-init : goal.loop-finding-init
loop-finding-init c = refl

pub returns : goal.returns
returns c = none_left _ _ _ (ap (flat_map (finding_line c.args.scripts.now)) (drop_all c.loop-finding.finding-index c.args.findings.now c.loop-finding-test.false)) (sym c.loop-finding.invariant)
