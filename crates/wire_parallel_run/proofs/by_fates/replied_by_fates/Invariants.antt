use Rattle.std.proofs.Common.{◌≡◌, map, take}
use Rattle.wire_types.specs.declared.CallEnd.TheVariants.{Replied}
use Rattle.wire_scripts.specs.Planned.{plan_of}
use Rattle.wire_runs.specs.Ends.{replies_of}
use Rattle.wire_runs.specs.Laws.{plain_end}
use Rattle.wire_parallel_run.proofs.ByFates.{IsCount}
use Rattle.wire_parallel_run.proofs.by_fates.replied_by_fates.Given as goal

abbrev pub invariant-loop-at : goal.invariant-loop-at
invariant-loop-at l = record {
  ends : l.ends.items ≡ map Replied (replies_of (plan_of l.settled) (take l.at ((plain_end (plan_of l.settled)).replies l.proc.number)));
  count : IsCount (plan_of l.settled) l.proc.number l.at l.done;
}
