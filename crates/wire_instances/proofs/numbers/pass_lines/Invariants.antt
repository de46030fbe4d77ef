use Rattle.std.proofs.Common.{◌≡◌, map, drop}
use Rattle.wire_pattern.specs.Views.{line_by}
use Rattle.wire_instances.specs.Search.{past}
use Rattle.wire_instances.proofs.numbers.pass_lines.Given as goal

abbrev pub invariant-loop-line : goal.invariant-loop-line
invariant-loop-line l =
    past l.search (map (λ k. k.number) (map line_by (drop l.line-index l.lines))) ≡ past l.fn.search (map (λ k. k.number) (map line_by l.lines))
