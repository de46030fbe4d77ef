use Rattle.std.proofs.Common.{◌∙◌, ap}
use Rattle.wire_command.specs.Ending.{ended_of}
use Rattle.wire_commands.specs.Witnesses.{races_form}
use Rattle.wire_command.specs.Answer.{rows_in}
use Rattle.wire_commands.proofs.witnesses.answer_plan.Goals as goal

pub returns-clause-ok : goal.returns-clause-ok
returns-clause-ok g c = record {
  search = c.in_ok-search.search;
  searched = c.in_ok-search.ensures.ok;
  tells =
      c.in_ok-text.ensures
      ∙ ap (λ s. races_form c.args.tries.telling.form c.args.tries.telling.places.name.now (rows_in c.args.tries.telling.places) s c.in_ok-search.search)
      c.scripts.ensures.scripts;
  ends = c.of_count.ensures.counted ∙ ap ended_of c.count_shown.ensures;
}
