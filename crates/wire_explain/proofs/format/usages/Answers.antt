use Rattle.std.proofs.Common.{refl}
use Rattle.wire_explain.proofs.format.usages.Goals as goal

pub returns-in-Pattern : goal.returns-in-Pattern
returns-in-Pattern c = rw c.in-Pattern.is refl
