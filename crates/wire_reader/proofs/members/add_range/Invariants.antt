use Rattle.std.proofs.Common.{◌≡◌, ◌≤◌}
use Rattle.wire_reader.specs.Targets.{AddsRange}
use Rattle.wire_reader.proofs.members.add_range.Given as goal

abbrev pub invariant-loop-number : goal.invariant-loop-number
invariant-loop-number l = record {
  added : AddsRange l.first l.number l.fn.numbers.items l.numbers.items;
  none : l.past ≤ l.first → l.number ≡ l.first;
}
