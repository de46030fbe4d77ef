use Rattle.std.proofs.Common.{sym, ◌∙◌}
use Rattle.wire_portable.proofs.fences.repeating.Goals as goal

pub returns : goal.returns
returns c = λ library h. c.repeats.ensures (sym (c.all_if.ensures library) ∙ h)
