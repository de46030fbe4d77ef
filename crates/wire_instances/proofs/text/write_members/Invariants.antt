use Rattle.std.proofs.Common.{◌++◌, drop, flat_map}
use Rattle.wire_scripts.specs.Canonical.{line_text}
use Rattle.wire_pattern.specs.Instances.{members_said, roles_from, cast_of}
use Rattle.wire_instances.specs.Tables.{first_of}
use Rattle.wire_instances.specs.Written.{AgreeOn}
use Rattle.wire_instances.proofs.text.write_members.Given as goal

abbrev pub invariant-loop-number : goal.invariant-loop-number
invariant-loop-number l =
    AgreeOn l.excerpt.wanted (l.out.items ++ flat_map line_text (members_said l.excerpt.frame.pattern l.excerpt.frame.cast l.job
    (first_of l.excerpt.frame.cast.sizes l.number) (roles_from l.number (drop l.number l.excerpt.frame.cast.sizes))))
    (l.fn.out.items ++ flat_map line_text (members_said l.excerpt.frame.pattern l.excerpt.frame.cast l.job 0 (cast_of l.excerpt.frame.cast).roles))
