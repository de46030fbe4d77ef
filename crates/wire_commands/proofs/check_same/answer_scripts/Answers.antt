use Rattle.std.proofs.Common.{subst, IfOk}
use Rattle.wire_command.specs.Answer.{rows_in}
use Rattle.wire_commands.specs.CheckSame.{IsSameVerdict}
use Rattle.wire_commands.proofs.check_same.answer_scripts.Goals as goal

pub returns-clause-ok : goal.returns-clause-ok
returns-clause-ok g c =
    subst (λ s. IfOk c.answer_plan-answer.result (λ a. IsSameVerdict c.args.telling.form c.args.telling.places.name.now s
    (rows_in c.args.telling.places) a.text.items a.ended)) c.in_ok-plan.ensures.ok c.answer_plan-answer.ensures.ok
