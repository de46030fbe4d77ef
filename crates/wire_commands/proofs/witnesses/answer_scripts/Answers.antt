use Rattle.std.proofs.Common.{subst, IfOk}
use Rattle.wire_commands.specs.Witnesses.{TriesRaces}
use Rattle.wire_command.specs.Answer.{rows_in}
use Rattle.wire_commands.proofs.witnesses.answer_scripts.Goals as goal

pub returns-clause-ok : goal.returns-clause-ok
returns-clause-ok g c =
    subst (λ s. IfOk c.answer_plan-answer.result (λ a. TriesRaces c.args.tries.telling.form c.args.tries.telling.places.name.now c.args.tries.most s
    (rows_in c.args.tries.telling.places) a.text.items a.ended)) c.in_ok-plan.ensures.ok c.answer_plan-answer.ensures.ok
