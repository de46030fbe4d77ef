use Rattle.wire_plan.proofs.Tables.{no_names}
use Rattle.wire_plan.proofs.names.NameTable.empty.Goals as goal

pub returns : goal.returns
returns c = λ plan. no_names plan _ c.empty.ensures c.empty-2.ensures c.empty-3.ensures c.empty-4.ensures
