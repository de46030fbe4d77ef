use Rattle.std.proofs.Common.{◌≡◌, ◌+◌, map, drop}
use Rattle.wire_pattern.specs.Views.{role_by}
use Rattle.wire_pattern_later.specs.Through.{through_count}
use Rattle.wire_pattern_later.proofs.through.through_count.Given as goal

abbrev pub invariant-loop-other : goal.invariant-loop-other
invariant-loop-other l =
    l.count + through_count (map role_by (drop l.other-index l.roles)) l.role ≡ through_count (map role_by l.roles) l.role
