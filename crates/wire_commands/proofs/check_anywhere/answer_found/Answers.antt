use Rattle.std.proofs.Common.{◌∙◌, ap}
use Rattle.wire_command.specs.Answer.{rows_in}
use Rattle.wire_command.specs.Ending.{ended_of}
use Rattle.wire_commands.proofs.CheckedAnywhere.{verdict_so}
use Rattle.wire_commands.proofs.check_anywhere.answer_found.Goals as goal

pub returns-clause-ok : goal.returns-clause-ok
returns-clause-ok c =
    verdict_so c.args.telling.form c.args.telling.places.name.now (rows_in c.args.telling.places) c.args.marked.now _ c.args.found.now c.of_count.result c.in_ok-text.text.items
    c.requires (c.settled_exactly.ensures c.args.marked.now c.args.found.now c.requires) (c.of_count.ensures.counted ∙ ap ended_of c.len.ensures)
    (c.scripts-scripts.ensures.scripts ∙ c.plan.ensures) c.in_ok-text.ensures
