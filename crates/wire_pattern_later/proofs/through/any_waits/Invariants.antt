use Rattle.std.proofs.Common.{◌≡◌, map, drop}
use Rattle.std.specs.List.{list_any}
use Rattle.wire_pattern.specs.Views.{line_by}
use Rattle.wire_pattern_later.specs.Through.{may_wait}
use Rattle.wire_pattern_later.proofs.through.any_waits.Given as goal

abbrev pub invariant-loop-line : goal.invariant-loop-line
invariant-loop-line l =
    list_any (λ k. may_wait k.call) (map line_by (drop l.line-index l.lines)) ≡ list_any (λ k. may_wait k.call) (map line_by l.lines)
