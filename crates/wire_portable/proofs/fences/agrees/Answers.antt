use Rattle.std.proofs.Common.{sym, ◌∙◌}
use Rattle.wire_portable.proofs.PlainFences.{not_true}
use Rattle.wire_portable.proofs.fences.agrees.Goals as goal

pub returns-then-collect : goal.returns-then-collect
returns-then-collect c = λ t members is here. sym (c.collects-is.ensures members is here) ∙ t ∙ sym c.if-collect.true

pub returns-else-collect : goal.returns-else-collect
returns-else-collect c = λ t members is here. sym (c.collects-is.ensures members is here) ∙ not_true c.collects-is.result t ∙ sym c.if-collect.false
