use Rattle.wire_pattern_waits.proofs.Listed.{script_step}
use Rattle.wire_pattern_answers.specs.Lines.{is_get_now}
use Rattle.wire_pattern_answers.proofs.lines.lines_of.Goals as goal

pub loop-number-preserved : goal.loop-number-preserved
loop-number-preserved c =
    script_step (λ line. is_get_now line.verb) c.roles-role-items.result.now c.loop-number.number c.role-item.result c.as_slice.result.now c.loop-number.lines.items
    c.add_script.new.out.items _ c.loop-number-test.true c.role-item.is c.as_slice.ensures.value c.in_ok-add_script.ensures c.loop-number.invariant
