use Rattle.std.proofs.Common.{◌≡◌, ◌⊎◌, subst, inl, IfOk, IfErr, Err}
use Rattle.wire_types.specs.declared.Fault.TheVariants.{Memory}
use Rattle.wire_commands.specs.Why.{QuestionNames}
use Rattle.wire_command.proofs.Handed.{handed_on, not_ok}
use Rattle.wire_commands.specs.Witness.{ShowsPair}
use Rattle.wire_types.specs.Texts.{texts_of}
use Rattle.wire_command.specs.Answer.{rows_in}
use Rattle.wire_commands.proofs.witness.answer_scripts.Goals as goal

pub returns-in_err-plan-clause-ok : goal.returns-in_err-plan-clause-ok
returns-in_err-plan-clause-ok c = not_ok c.from_residual.result c.in_err-plan.field-0.0 _ c.from_residual.ensures.1

pub returns-in_err-plan-clause-err : goal.returns-in_err-plan-clause-err
returns-in_err-plan-clause-err c = handed_on c.from_residual.result c.in_err-plan.field-0.0 _ c.from_residual.ensures.1 (inl c.in_err-plan.ensures.err)

pub returns-clause-ok : goal.returns-clause-ok
returns-clause-ok c =
    subst (λ s. IfOk c.answer_plan-answer.result (λ a. ShowsPair c.args.telling.form c.args.telling.places.name.now (texts_of c.args.asked.words) c.args.asked.orders s
    (rows_in c.args.telling.places) a.text.items a.ended)) c.in_ok-plan.ensures.ok c.answer_plan-answer.ensures.ok

pub returns-clause-err : goal.returns-clause-err
returns-clause-err c =
    subst (λ s. IfErr c.answer_plan-answer.result (λ e. (e ≡ Memory) ⊎ QuestionNames s (texts_of c.args.asked.words) (Err e))) c.in_ok-plan.ensures.ok c.answer_plan-answer.ensures.err
