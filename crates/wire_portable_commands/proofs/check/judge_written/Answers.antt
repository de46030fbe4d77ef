use Rattle.std.proofs.Common.{◌∙◌, subst, sym}
use Rattle.wire_findings.specs.Findings.{AreFindings}
use Rattle.wire_portable_commands.proofs.Settled.{settled_here}
use Rattle.wire_portable_commands.proofs.check.judge_written.Goals as goal

pub find_unportable-requires : goal.find_unportable-requires
find_unportable-requires g c is =
    settled_here c.args.marked.now _ c.is_empty.result (c.settled_exactly.ensures c.args.marked.now _ c.in_ok-found.ensures.ok) c.is_empty.ensures is

pub answer_findings-requires : goal.answer_findings-requires
answer_findings-requires g c =
    subst (λ s. AreFindings s c.in_ok-found.found) (sym (c.scripts.ensures.scripts ∙ c.plan.ensures)) c.in_ok-found.ensures.ok
