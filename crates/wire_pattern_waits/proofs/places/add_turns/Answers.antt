use Rattle.std.proofs.Common.{ℕ, get_or}
use Rattle.std.specs.List.{range_with_len}
use Rattle.wire_instances.proofs.Loops.{turn_numbers}
use Rattle.wire_instances.proofs.Texts.{get_or_same}
use Rattle.wire_pattern_waits.proofs.places.add_turns.Goals as goal

pub loop-each-preserved : goal.loop-each-preserved
loop-each-preserved c =
    let turns = c.args.turns.now in
    let i = c.loop-each._each-index in
    turn_numbers (λ (e : ℕ). range_with_len c.args.first c.args.count) turns i (get_or turns i 0) c.loop-each.out.items c.add_numbers.new.out.items _
    c.loop-each-test.true (get_or_same turns i 0 c.loop-each-test.true) c.in_ok-add_numbers.ensures c.loop-each.invariant
