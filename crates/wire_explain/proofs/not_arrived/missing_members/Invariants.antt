use Rattle.std.proofs.Common.{◌≡◌, take}
use Rattle.std.specs.Prelude.{filter}
use Rattle.wire_runs.specs.Plan.{set_of}
use Rattle.wire_scripts.specs.Scripts.{numbers_of, set_at}
use Rattle.wire_core.specs.Course.{plan_in, state_of}
use Rattle.wire_explain.specs.Stops.{is_missing}
use Rattle.wire_explain.proofs.not_arrived.missing_members.Given as goal

abbrev pub invariant-loop-member : goal.invariant-loop-member
invariant-loop-member l =
    numbers_of l.missing.items ≡ filter (is_missing (plan_in l.core) (state_of l.core).done (set_of (set_at l.core.scripts.sets l.set)) l.number) (take l.member-index (numbers_of l.members))
