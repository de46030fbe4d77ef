use Rattle.std.proofs.Common.{◌≡◌, ◌-◌}
use Rattle.wire_instances.specs.Search.{past}
use Rattle.wire_instances.specs.Written.{role_lines}
use Rattle.wire_instances.proofs.numbers.pass_role.Given as goal

abbrev pub invariant-loop-process : goal.invariant-loop-process
invariant-loop-process l =
    past l.search (role_lines l.frame.pattern l.frame.cast l.number l.process (l.end - l.process))
    ≡ past l.fn.search (role_lines l.frame.pattern l.frame.cast l.number l.first (l.end - l.first))
