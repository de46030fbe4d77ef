use Rattle.std.proofs.Common.{◌+◌, ◌++◌, ◌-◌, map}
use Rattle.std.specs.List.{range_with_len}
use Rattle.wire_runs.specs.Patterns as plan
use Rattle.wire_pattern.specs.Instances.{cast_of, process_item}
use Rattle.wire_scripts.specs.Canonical.{items_text}
use Rattle.wire_instances.specs.Written.{AgreeOn}
use Rattle.wire_instances.proofs.words.write_role.Given as goal

abbrev pub invariant-loop-process : goal.invariant-loop-process
invariant-loop-process l =
    AgreeOn (l.excerpt.wanted + 1) (l.out.items ++ items_text (map (process_item l.excerpt.frame.pattern l.excerpt.frame.cast)
    (range_with_len l.process (l.end - l.process))))
    (l.fn.out.items ++ items_text (map (process_item l.excerpt.frame.pattern l.excerpt.frame.cast) (plan.group l.role (cast_of l.excerpt.frame.cast).roles)))
