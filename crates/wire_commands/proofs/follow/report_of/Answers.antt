use Rattle.std.proofs.Common.{inl}
use Rattle.std.proofs.lemmas.Result.{IfErr-weaker}
use Rattle.wire_types.specs.Outcome.{ends_of}
use Rattle.wire_scripts.specs.Scripts.{numbers_of}
use Rattle.wire_command.proofs.Handed.{handed_on, not_ok}
use Rattle.wire_commands.proofs.Texts.{followed_told}
use Rattle.wire_commands.proofs.follow.report_of.Goals as goal

pub returns-in_err-outcome-clause-ok : goal.returns-in_err-outcome-clause-ok
returns-in_err-outcome-clause-ok c = not_ok c.from_residual.result c.in_err-outcome.field-0.0 _ c.from_residual.ensures.1

pub returns-in_err-outcome-clause-err : goal.returns-in_err-outcome-clause-err
returns-in_err-outcome-clause-err c = handed_on c.from_residual.result c.in_err-outcome.field-0.0 _ c.from_residual.ensures.1 (c.in_err-outcome.ensures.err)

pub returns-clause-ok : goal.returns-clause-ok
returns-clause-ok c =
    followed_told c.args.json c.args.plan.now c.scripts.result.now (numbers_of c.args.order.now)
    (ends_of c.in_ok-outcome.outcome) c.report_text.result c.scripts.ensures.scripts c.in_ok-outcome.ensures.ok
    c.report_text.ensures.ok

pub returns-clause-err : goal.returns-clause-err
returns-clause-err c = IfErr-weaker c.report_text.result _ _ (λ e memory. inl memory) c.report_text.ensures.err
