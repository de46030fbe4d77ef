use Rattle.wire_scripts.specs.Planned.{plan_of}
use Rattle.wire_command.specs.Answer.{rows_in}
use Rattle.wire_commands.proofs.CheckedAnywhere.{found_too, none_found, told_too}
use Rattle.wire_commands.proofs.check_same.answer_plan.Goals as goal

pub answer_settled-requires : goal.answer_settled-requires
answer_settled-requires g c =
    none_found c.with-marked.result c.in_ok-found.found c.is_empty.result c.is_empty.ensures c.if-not-is_empty.false
    (c.settled_exactly.ensures c.with-marked.result c.in_ok-found.found c.in_ok-found.ensures.ok) (c.settled_anywhere.ensures (plan_of c.with-marked.result))

pub returns-clause-ok : goal.returns-clause-ok
returns-clause-ok g c =
    told_too c.args.telling.form c.args.telling.places.name.now (rows_in c.args.telling.places) c.args.plan.now c.with-marked.result c.answer_settled.result
    c.with-marked.ensures c.answer_settled.ensures.ok

pub returns-then-not-is_empty-clause-ok : goal.returns-then-not-is_empty-clause-ok
returns-then-not-is_empty-clause-ok g c =
    found_too c.args.telling.form c.args.telling.places.name.now (rows_in c.args.telling.places) c.args.plan.now c.with-marked.result c.in_ok-found.found c.is_empty.result c.answer_found.result
    c.with-marked.ensures c.is_empty.ensures c.if-not-is_empty.true c.answer_found.ensures.ok c.answer_found.ensures.count
