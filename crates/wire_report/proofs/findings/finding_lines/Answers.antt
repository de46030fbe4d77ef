use Rattle.std.proofs.Common.{◌++◌, ap, map}
use Rattle.std.proofs.lemmas.List.{drop_all}
use Rattle.wire_types.specs.Texts.{lists_of}
use Rattle.wire_report.specs.Findings.{finding_words}
use Rattle.wire_report.proofs.Appended.{next_words, none_left}
use Rattle.wire_report.proofs.findings.finding_lines.Goals as goal

pub loop-finding-preserved : goal.loop-finding-preserved
loop-finding-preserved c =
    next_words (λ line. line.items) (finding_words c.args.scripts.now) c.args.findings.now c.loop-finding.finding-index _ _ _ c.push_finding.new.out _ _ c.loop-finding-test.true
    c.loop-finding.invariant c.new-line.ensures.items c.in_ok-push_finding.ensures.ok c.in_ok-push.ensures.items

pub loop-finding-init : goal.loop-finding-init
loop-finding-init c = ap (λ lines. lists_of lines ++ map (finding_words c.args.scripts.now) c.args.findings.now) c.new-lines.ensures.items

pub returns : goal.returns
returns c =
    none_left _ _ _ (ap (map (finding_words c.args.scripts.now)) (drop_all c.loop-finding.finding-index c.args.findings.now c.loop-finding-test.false)) c.loop-finding.invariant
