use Rattle.std.proofs.Common.{◌∙◌, ap}
use Rattle.wire_happens_before.specs.Updates.{names_at}
use Rattle.wire_happens_before.proofs.Lists.{append_others}
use Rattle.wire_happens_before.proofs.held.Held.clear.Goals as goal

pub returns-then-is_there : goal.returns-then-is_there
returns-then-is_there c = λ p ne. append_others c.self.inside.by_proc.items c.args.proc.number p c.clear.new.self ne ∙ ap (λ xs. names_at xs p) c.self.view_is
