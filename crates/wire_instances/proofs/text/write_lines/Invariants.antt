use Rattle.std.proofs.Common.{◌++◌, map, drop}
use Rattle.wire_pattern.specs.Instances.{call_said}
use Rattle.wire_pattern.specs.Views.{line_by}
use Rattle.wire_instances.specs.Written.{AgreeOn, calls_text}
use Rattle.wire_instances.proofs.text.write_lines.Given as goal

abbrev pub invariant-loop-line : goal.invariant-loop-line
invariant-loop-line l =
    AgreeOn l.excerpt.wanted (l.out.items ++ calls_text (map (λ k. call_said l.excerpt.frame.pattern l.excerpt.frame.cast l.calling.caller l.calling.each
    k.call) (map line_by (drop l.line-index l.lines))))
    (l.fn.out.items ++ calls_text (map (λ k. call_said l.excerpt.frame.pattern l.excerpt.frame.cast l.calling.caller l.calling.each k.call)
    (map line_by l.lines)))
