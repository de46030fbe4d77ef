use Rattle.std.proofs.Common.{map}
use Rattle.wire_runs.specs.Plan.{event_of}
use Rattle.wire_scripts.specs.Planned.{plan_of}
use Rattle.wire_portable.proofs.Gathered.{AreCommitsTo}
use Rattle.wire_portable.proofs.commits.row_of.Given as goal

abbrev pub invariant-loop-at : goal.invariant-loop-at
invariant-loop-at l = AreCommitsTo (plan_of l.marked) l.proc.number l.at (map event_of l.row.items)
