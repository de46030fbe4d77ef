use Rattle.std.proofs.Common.{◌++◌, map, drop, flat_map}
use Rattle.wire_scripts.specs.Canonical.{line_text}
use Rattle.wire_pattern.specs.Instances.{jobs_said}
use Rattle.wire_instances.specs.Written.{AgreeOn}
use Rattle.wire_instances.proofs.text.write_jobs.Given as goal

abbrev pub invariant-loop-number : goal.invariant-loop-number
invariant-loop-number l =
    AgreeOn l.excerpt.wanted (l.out.items ++ flat_map line_text (jobs_said l.excerpt.frame.pattern l.excerpt.frame.cast l.number
    (map (λ j. j.name) (drop l.number l.excerpt.frame.pattern.jobs))))
    (l.fn.out.items ++ flat_map line_text (jobs_said l.excerpt.frame.pattern l.excerpt.frame.cast 0 (map (λ j. j.name) l.excerpt.frame.pattern.jobs)))
