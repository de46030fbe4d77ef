use Rattle.std.proofs.Common.{◌≡◌, ◌≤◌, map, drop}
use Rattle.std.specs.Prelude.{max}
use Rattle.wire_pattern.specs.Views.{role_by}
use Rattle.wire_pattern_later.specs.Through.{first_size}
use Rattle.wire_pattern_later.proofs.through.first_size.Given as goal

abbrev pub invariant-loop-role : goal.invariant-loop-role
invariant-loop-role l =
    (max l.size (first_size (map role_by (drop l.role-index l.roles))) ≡ first_size (map role_by l.roles)) × (3 ≤ l.size)
