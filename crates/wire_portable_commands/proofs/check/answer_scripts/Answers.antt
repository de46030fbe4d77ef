use Rattle.std.proofs.Common.{subst, IfOk}
use Rattle.wire_command.specs.Answer.{rows_in}
use Rattle.wire_portable_commands.specs.CheckPortable.{TellsLibraries}
use Rattle.wire_portable_commands.proofs.check.answer_scripts.Goals as goal

pub returns-clause-ok : goal.returns-clause-ok
returns-clause-ok g c =
    subst (λ s. IfOk c.answer_plan-answer.result (λ a. TellsLibraries c.args.judging.anywhere c.args.judging.telling.form c.args.judging.telling.places.name.now c.args.judging.spelling.now s
    (rows_in c.args.judging.telling.places) a.text.items a.ended)) c.in_ok-plan.ensures.ok c.answer_plan-answer.ensures.ok
