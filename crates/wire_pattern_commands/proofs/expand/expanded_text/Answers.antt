use Rattle.wire_instances.specs.Views.{cast_by}
use Rattle.wire_pattern_commands.proofs.Expansions.{expanded, not_expanded}
use Rattle.wire_pattern_commands.proofs.expand.expanded_text.Goals as goal

pub returns-in-Ok-clause-ok : goal.returns-in-Ok-clause-ok
returns-in-Ok-clause-ok c =
    expanded c.args.pattern.now c.args.asked (cast_by c.in_ok-cast.cast) c.in_ok-text.text.items c.as_slice.result.now c.in-Ok.scripts c.note_sound.ensures c.instances_read.ensures
    c.in_ok-cast.ensures.ok (rw c.file_bytes.ensures at c.in_ok-text.ensures) c.as_slice.ensures.value c.in-Ok.ensures.ok

pub returns-clause-err : goal.returns-clause-err
returns-clause-err c =
    not_expanded c.args.pattern.now c.args.asked (cast_by c.in_ok-cast.cast) c.in_ok-text.text.items c.as_slice.result.now c.in-Err.fault
    c.in_ok-pattern_fault-in-Err.field-0
    c.in_ok-cast.ensures.ok (rw c.file_bytes.ensures at c.in_ok-text.ensures) c.as_slice.ensures.value c.in-Err.ensures.err c.in_ok-pattern_fault-in-Err.ensures
