use Rattle.std.proofs.Common.{inl}
use Rattle.wire_scripts.specs.Scripts.{numbers_of}
use Rattle.wire_command.proofs.Handed.{handed_on, not_ok}
use Rattle.wire_commands.proofs.Texts.{leads_too, stops_too}
use Rattle.wire_commands.proofs.follow.followed_text.Goals as goal

pub returns-in_err-plan-clause-ok : goal.returns-in_err-plan-clause-ok
returns-in_err-plan-clause-ok c = not_ok c.from_residual.result c.in_err-plan.field-0.0 _ c.from_residual.ensures.1

pub returns-in_err-plan-clause-err : goal.returns-in_err-plan-clause-err
returns-in_err-plan-clause-err c = handed_on c.from_residual.result c.in_err-plan.field-0.0 _ c.from_residual.ensures.1 (inl c.in_err-plan.ensures.err)

pub returns-clause-ok : goal.returns-clause-ok
returns-clause-ok c = leads_too c.args.json c.args.scripts c.in_ok-plan.plan (numbers_of c.args.order.now) c.report_of-text.result c.in_ok-plan.ensures.ok c.report_of-text.ensures.ok

pub returns-clause-err : goal.returns-clause-err
returns-clause-err c = stops_too c.args.scripts c.in_ok-plan.plan (numbers_of c.args.order.now) c.report_of-text.result c.in_ok-plan.ensures.ok c.report_of-text.ensures.err
