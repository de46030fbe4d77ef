use Rattle.std.proofs.Common.{◌++◌, map, drop}
use Rattle.wire_pattern.specs.Instances.{turns_said}
use Rattle.wire_pattern.specs.Views.{line_by}
use Rattle.wire_instances.specs.Written.{AgreeOn, calls_text}
use Rattle.wire_instances.proofs.text.write_turns.Given as goal

abbrev pub invariant-loop-each : goal.invariant-loop-each
invariant-loop-each l =
    AgreeOn l.excerpt.wanted (l.out.items ++ calls_text (turns_said l.excerpt.frame.pattern l.excerpt.frame.cast l.caller (map line_by l.lines)
    (drop l.each-index l.turns)))
    (l.fn.out.items ++ calls_text (turns_said l.excerpt.frame.pattern l.excerpt.frame.cast l.caller (map line_by l.lines) l.turns))
