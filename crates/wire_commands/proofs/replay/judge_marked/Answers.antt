use Rattle.std.proofs.Common.{subst, sym, ◌∙◌, []}
use Rattle.wire_findings.specs.Findings.{AreFindings}
use Rattle.wire_commands.proofs.Worked.{none_there}
use Rattle.wire_commands.proofs.replay.judge_marked.Goals as goal

pub try_new-requires-clause-findings : goal.try_new-requires-clause-findings
try_new-requires-clause-findings c =
    let none = none_there c.args.findings c.is_empty.result c.is_empty.ensures c.if-not-is_empty.false in
    subst (λ f. AreFindings c.args.plan f) (none ∙ sym c.new.ensures.items) c.requires.those

pub returns : goal.returns
returns c =
    let none = none_there c.args.findings c.is_empty.result c.is_empty.ensures c.if-not-is_empty.false in
    (c.in-Ok.ensures.kept, subst (λ s. AreFindings s []) (sym c.in-Ok.ensures.kept) (subst (λ f. AreFindings c.args.plan f) none c.requires.those))
