use Rattle.std.proofs.Common.{◌∙◌, sym}
use Rattle.wire_plan.proofs.Tables.{none_once, once_of}
use Rattle.wire_plan.proofs.names.NameTable.once_published.Goals as goal

pub returns-in-Some : goal.returns-in-Some
returns-in-Some c = λ plan are.
    once_of plan c.args.name c.publishes.result.now c.list.result.now c.in-Some.publish c.find_unswept.result
    (c.publishes.ensures plan are)
    (rw (c.list.ensures) (are.takes c.args.name))
    (sym c.only_publish.ensures ∙ c.in-Some.is) (c.find_unswept.ensures plan are)

pub returns-in-None : goal.returns-in-None
returns-in-None c = λ plan are.
    none_once plan c.args.name c.publishes.result.now c.list.result.now
    (c.publishes.ensures plan are)
    (rw (c.list.ensures) (are.takes c.args.name))
    (sym c.only_publish.ensures ∙ c.in-None.is)
