use Rattle.std.proofs.Common.{◌∙◌, ap}
use Rattle.wire_command.proofs.Handed.{handed_on, not_ok}
use Rattle.wire_commands.proofs.Questioned.{asked_too, refused_too}
use Rattle.wire_command.specs.Ending.{ended_of}
use Rattle.wire_commands.specs.Witness.{pair_text}
use Rattle.wire_types.specs.Texts.{texts_of}
use Rattle.wire_command.specs.Answer.{rows_in}
use Rattle.wire_commands.proofs.witness.answer_plan.Goals as goal

pub returns-in_err-calls-clause-ok : goal.returns-in_err-calls-clause-ok
returns-in_err-calls-clause-ok c = not_ok c.from_residual.result c.in_err-calls.field-0.0 _ c.from_residual.ensures.1

pub returns-in_err-calls-clause-err : goal.returns-in_err-calls-clause-err
returns-in_err-calls-clause-err c =
    handed_on c.from_residual.result c.in_err-calls.field-0.0 _ c.from_residual.ensures.1
    (refused_too c.scripts.result.now c.args.plan.now (texts_of c.args.asked.words) c.in_err-calls.field-0.0 c.scripts.ensures.scripts c.in_err-calls.ensures.err)

pub returns-clause-ok : goal.returns-clause-ok
returns-clause-ok c = record {
  x = c.in_ok-calls.calls.0;
  y = c.in_ok-calls.calls.1;
  asks = asked_too c.scripts.result.now c.args.plan.now (texts_of c.args.asked.words) c.in_ok-calls.calls c.scripts.ensures.scripts c.in_ok-calls.ensures.ok;
  search = c.in_ok-search.search;
  searched = c.in_ok-search.ensures.ok;
  tells =
      c.in_ok-text.ensures
      ∙ ap (λ s. pair_text c.args.telling.form c.args.telling.places.name.now (rows_in c.args.telling.places) c.args.asked.orders s c.in_ok-search.search) c.scripts-2.ensures.scripts;
  ends = c.of_count.ensures.counted ∙ ap ended_of c.count_shown.ensures;
}
