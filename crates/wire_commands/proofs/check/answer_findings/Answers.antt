use Rattle.std.proofs.Common.{refl}
use Rattle.wire_command.specs.Answer.{rows_in}
use Rattle.wire_commands.proofs.Checked.{judged_told}
use Rattle.wire_commands.proofs.check.answer_findings.Goals as goal

pub returns-clause-ok : goal.returns-clause-ok
returns-clause-ok c =
    judged_told c.args.telling.form c.args.telling.places.name.now (rows_in c.args.telling.places) c.args.scripts.now _ c.args.found.now c.of_count.result
    c.in_ok-text.text.items (c.settled_exactly.ensures c.args.scripts.now c.args.found.now c.requires) c.requires refl
    (c.of_count.ensures.found c.args.found.now c.len.ensures) c.in_ok-text.ensures.ok
