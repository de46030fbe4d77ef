use Rattle.std.proofs.Common.{codes, refl}
use Rattle.wire_report.specs.Findings.{finding_words}
use Rattle.wire_report.proofs.Appended.{last_slice, no_room_for_last_slice, either_has_none, first_has_none}
use Rattle.wire_report.proofs.findings.push_line_after.Goals as goal

pub returns-in_err-push_finding_after-clause-full : goal.returns-in_err-push_finding_after-clause-full
returns-in_err-push_finding_after-clause-full c =
    either_has_none c.from_residual.result _ _ _ (finding_words c.args.scripts.now c.args.finding) (codes "\n") _ c.in_err-push_finding_after.ensures.full refl

pub returns-clause-ok : goal.returns-clause-ok
returns-clause-ok c =
    last_slice c.extend_from_slice.result _ _ _ (finding_words c.args.scripts.now c.args.finding) (codes "\n") _ c.in_ok-push_finding_after.ensures.ok c.extend_from_slice.ensures.items refl

pub returns-clause-full : goal.returns-clause-full
returns-clause-full c =
    first_has_none c.extend_from_slice.result _ _
    (no_room_for_last_slice c.extend_from_slice.result _ c.push_finding_after.new.out c.args.out.now.items (finding_words c.args.scripts.now c.args.finding) (codes "\n") _
    c.in_ok-push_finding_after.ensures.ok c.in_ok-push_finding_after.ensures.capacity c.extend_from_slice.ensures.full refl)
