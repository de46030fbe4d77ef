use Rattle.std.proofs.Common.{◌++◌, ◌-◌, flat_map}
use Rattle.wire_scripts.specs.Canonical.{line_text}
use Rattle.wire_instances.specs.Written.{AgreeOn, role_said}
use Rattle.wire_instances.proofs.text.write_role.Given as goal

abbrev pub invariant-loop-process : goal.invariant-loop-process
invariant-loop-process l =
    AgreeOn l.excerpt.wanted (l.out.items ++ flat_map line_text (role_said l.excerpt.frame.pattern l.excerpt.frame.cast l.number l.process (l.end - l.process)))
    (l.fn.out.items ++ flat_map line_text (role_said l.excerpt.frame.pattern l.excerpt.frame.cast l.number l.first (l.end - l.first)))
