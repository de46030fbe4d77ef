use Rattle.std.proofs.Common.{◌≡◌, ◌++◌, map, filter, drop}
use Rattle.wire_pattern.specs.Views.{role_by}
use Rattle.wire_pattern_waits.specs.Lines.{roles_lines}
use Rattle.wire_pattern_answers.specs.Lines.{is_get_now}
use Rattle.wire_pattern_answers.proofs.lines.lines_of.Given as goal

abbrev pub invariant-loop-number : goal.invariant-loop-number
invariant-loop-number l =
    l.lines.items ++ filter (λ c. is_get_now c.verb) (roles_lines l.number (map role_by (drop l.number l.role-items)))
    ≡ filter (λ c. is_get_now c.verb) (roles_lines 0 (map role_by l.role-items))
