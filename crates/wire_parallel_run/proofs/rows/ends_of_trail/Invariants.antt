use Rattle.std.proofs.Common.{◌≡◌, map, take}
use Rattle.wire_types.specs.declared.CallEnd.TheVariants.{Replied}
use Rattle.wire_parallel_run.specs.Trails.{said_in}
use Rattle.wire_parallel_run.proofs.rows.ends_of_trail.Given as goal

abbrev pub invariant-loop-fate : goal.invariant-loop-fate
invariant-loop-fate l = l.ends.items ≡ map Replied (said_in (take l.fate-index l.trail))
