use Rattle.std.proofs.Common.{ℕ, map, get_or}
use Rattle.wire_pattern.specs.Views.{line_by}
use Rattle.wire_instances.proofs.Loops.{turns_passed}
use Rattle.wire_instances.proofs.Texts.{get_or_same}
use Rattle.wire_instances.proofs.numbers.pass_turns.Goals as goal

pub loop-each-preserved : goal.loop-each-preserved
loop-each-preserved c =
    let turns = c.args.turns.now in
    let i = c.loop-each._each-index in
    turns_passed (λ (e : ℕ). map (λ k. k.number) (map line_by c.args.lines.now)) turns i (get_or turns i 0) c.loop-each.search c.pass_lines.new.search _
    c.loop-each-test.true (get_or_same turns i 0 c.loop-each-test.true) c.pass_lines.ensures c.loop-each.invariant
