use Rattle.std.proofs.Common.{inl, refl}
use Rattle.wire_command.proofs.Handed.{handed_on, not_ok}
use Rattle.wire_commands.proofs.Texts.{there_too}
use Rattle.wire_commands.proofs.Questioned.{asked_too, refused_too}
use Rattle.wire_types.specs.Texts.{texts_of}
use Rattle.wire_commands.proofs.why.answer_plan.Goals as goal

pub returns-in_err-calls-clause-ok : goal.returns-in_err-calls-clause-ok
returns-in_err-calls-clause-ok c = not_ok c.from_residual.result c.in_err-calls.field-0.0 _ c.from_residual.ensures.1

pub returns-in_err-calls-clause-err : goal.returns-in_err-calls-clause-err
returns-in_err-calls-clause-err c =
    handed_on c.from_residual.result c.in_err-calls.field-0.0 _ c.from_residual.ensures.1
    (refused_too c.scripts.result.now c.args.plan.now (texts_of c.args.words) c.in_err-calls.field-0.0 c.scripts.ensures.scripts c.in_err-calls.ensures.err)

pub text_between-requires-clause-x_there : goal.text_between-requires-clause-x_there
text_between-requires-clause-x_there c = there_too c.scripts.result.now c.args.plan.now c.in_ok-calls.calls.0 c.scripts.ensures.scripts c.in_ok-calls.ensures.x_there

pub text_between-requires-clause-y_there : goal.text_between-requires-clause-y_there
text_between-requires-clause-y_there c = there_too c.scripts.result.now c.args.plan.now c.in_ok-calls.calls.1 c.scripts.ensures.scripts c.in_ok-calls.ensures.y_there

pub returns-in_err-text-clause-ok : goal.returns-in_err-text-clause-ok
returns-in_err-text-clause-ok c = not_ok c.from_residual-in_err-text.result c.in_err-text.field-0.0 _ c.from_residual-in_err-text.ensures.1

pub returns-in_err-text-clause-err : goal.returns-in_err-text-clause-err
returns-in_err-text-clause-err c = handed_on c.from_residual-in_err-text.result c.in_err-text.field-0.0 _ c.from_residual-in_err-text.ensures.1 (inl c.in_err-text.ensures.err)

pub returns-clause-ok : goal.returns-clause-ok
returns-clause-ok c = record {
  x = c.in_ok-calls.calls.0;
  y = c.in_ok-calls.calls.1;
  asks = asked_too c.scripts.result.now c.args.plan.now (texts_of c.args.words) c.in_ok-calls.calls c.scripts.ensures.scripts c.in_ok-calls.ensures.ok;
  tells = c.in_ok-text.ensures.ok;
  ends = refl;
}
