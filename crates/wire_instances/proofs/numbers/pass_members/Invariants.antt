use Rattle.std.proofs.Common.{◌≡◌, drop}
use Rattle.wire_pattern.specs.Instances.{members_lines, roles_from, cast_of}
use Rattle.wire_instances.specs.Search.{past}
use Rattle.wire_instances.specs.Tables.{first_of}
use Rattle.wire_instances.proofs.numbers.pass_members.Given as goal

abbrev pub invariant-loop-number : goal.invariant-loop-number
invariant-loop-number l =
    past l.search (members_lines l.frame.pattern l.frame.cast l.job (first_of l.frame.cast.sizes l.number)
    (roles_from l.number (drop l.number l.frame.cast.sizes)))
    ≡ past l.fn.search (members_lines l.frame.pattern l.frame.cast l.job 0 (cast_of l.frame.cast).roles)
