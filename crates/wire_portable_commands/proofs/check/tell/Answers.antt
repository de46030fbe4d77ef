use Rattle.std.proofs.Common.{◌∙◌, ap}
use Rattle.wire_command.specs.Answer.{rows_in}
use Rattle.wire_portable_commands.specs.CheckPortable.{ended_beside}
use Rattle.wire_portable_commands.specs.Text.{whole_text}
use Rattle.wire_portable_commands.proofs.Told.{portable_so}
use Rattle.wire_portable_commands.proofs.check.tell.Goals as goal

pub returns-clause-ok : goal.returns-clause-ok
returns-clause-ok c =
    portable_so c.refines.ensures c.ends_by_rules.ensures c.library_one_end.ensures c.portable_there.ensures c.args.judging.anywhere c.args.judging.telling.form
    c.args.judging.telling.places.name.now c.args.scripts.now (rows_in c.args.judging.telling.places) c.args.judged.told.text.items _ c.args.judged.told.ended _ c.args.judging.spelling.now
    c.args.judged.lines c.requires.told c.requires.lines
    (c.ended_beside.ensures ∙ ap (ended_beside c.args.judged.told.ended) c.len.ensures)
    (c.in_ok-tell_libraries.ensures
    ∙ ap (whole_text c.args.judging.telling.form c.args.judging.telling.places.name.now (rows_in c.args.judging.telling.places) c.args.scripts.now c.args.judged.told.text.items)
    c.as_slice.ensures)
