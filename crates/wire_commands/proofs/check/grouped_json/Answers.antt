use Rattle.wire_commands.proofs.Grouped.{as_json}
use Rattle.wire_command.specs.Answer.{rows_in}
use Rattle.wire_commands.proofs.check.grouped_json.Goals as goal

pub returns-clause-ok : goal.returns-clause-ok
returns-clause-ok c =
    as_json (rows_in c.args.places) c.args.scripts.now c.args.found.now c.in_ok-groups.groups.items c.as_slice.result.now c.in_ok-text.text.items c.in_ok-groups.ensures
    c.in_ok-text.ensures c.as_slice.ensures.value
