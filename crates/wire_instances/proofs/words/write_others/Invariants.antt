use Rattle.std.proofs.Common.{◌≡◌, ◌++◌, map, drop}
use Rattle.wire_runs.specs.Patterns as plan
use Rattle.wire_pattern.specs.Instances.{cast_of, process_text}
use Rattle.wire_pattern.specs.Views.{who_by}
use Rattle.wire_instances.specs.Written.{ended_text}
use Rattle.wire_instances.proofs.words.write_others.Given as goal

abbrev pub invariant-loop-who : goal.invariant-loop-who
invariant-loop-who l =
    l.out.items ++ ended_text 44 93 (map (λ w. process_text l.frame.pattern l.frame.cast (plan.who (cast_of l.frame.cast) l.calling.caller l.calling.each w)) (map who_by (drop l.who-index l.others)))
    ≡ l.fn.out.items ++ ended_text 44 93 (map (λ w. process_text l.frame.pattern l.frame.cast (plan.who (cast_of l.frame.cast) l.calling.caller l.calling.each w)) (map who_by l.others))
