use Rattle.std.proofs.Common.{map, get_or}
use Rattle.wire_pattern.specs.Views.{line_by}
use Rattle.wire_instances.proofs.Loops.{turns_step}
use Rattle.wire_instances.proofs.Texts.{get_or_same}
use Rattle.wire_instances.proofs.text.write_turns.Goals as goal

pub loop-each-preserved : goal.loop-each-preserved
loop-each-preserved c =
    let f = c.args.excerpt.now.frame in
    let turns = c.args.turns.now in
    let i = c.loop-each.each-index in
    turns_step f.pattern f.cast c.args.caller (map line_by c.args.lines.now) turns i (get_or turns i 0) c.args.excerpt.now.wanted c.loop-each.out.items
    c.write_lines.new.out.items _
    c.loop-each-test.true (get_or_same turns i 0 c.loop-each-test.true) c.in_ok-write_lines.ensures c.loop-each.invariant
