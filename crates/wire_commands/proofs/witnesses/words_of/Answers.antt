use Rattle.std.proofs.Common.{◌++◌, ap, map}
use Rattle.std.proofs.lemmas.List.{drop_all}
use Rattle.wire_report.specs.Findings.{finding_words}
use Rattle.wire_report.proofs.Appended.{next_words, none_left}
use Rattle.wire_commands.specs.Witnesses.{words_of}
use Rattle.wire_commands.proofs.witnesses.words_of.Goals as goal

pub loop-one-init : goal.loop-one-init
loop-one-init c = ap (λ lines. map (λ line. line.items) lines ++ words_of c.args.scripts.now c.args.tried.now) c.new-lines.ensures.items

pub loop-one-preserved : goal.loop-one-preserved
loop-one-preserved c =
    next_words (λ line. line.items) (λ one. finding_words c.args.scripts.now one.race) c.args.tried.now c.loop-one.one-index _ _ _ c.push_finding.new.out _ _ c.loop-one-test.true
    c.loop-one.invariant c.new-line.ensures.items c.in_ok-push_finding.ensures.ok c.in_ok-push.ensures.items

pub returns : goal.returns
returns c = none_left _ _ _ (ap (words_of c.args.scripts.now) (drop_all c.loop-one.one-index c.args.tried.now c.loop-one-test.false)) c.loop-one.invariant
