use Rattle.std.proofs.Common.{◌∙◌, ap}
use Rattle.wire_core.proofs.rank.Rank.new.Goals as goal

pub returns-clause-room : goal.returns-clause-room
returns-clause-room c sets = ap (λ s. s.room) c.in_ok-new.ensures.ok ∙ c.put_total.ensures sets
