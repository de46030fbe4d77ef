use Rattle.wire_runs.specs.Plan.{set_of}
use Rattle.wire_scripts.specs.Scripts.{set_at}
use Rattle.wire_core.specs.Course.{plan_in, state_of}
use Rattle.wire_explain.specs.Stops.{is_missing}
use Rattle.wire_explain.proofs.Sets.{missing_more}
use Rattle.wire_explain.proofs.not_arrived.missing_members.Goals as goal

pub loop-member-preserved : goal.loop-member-preserved
loop-member-preserved c =
    missing_more (is_missing (plan_in c.args.core.now) (state_of c.args.core.now).done (set_of (set_at c.args.core.now.scripts.sets c.args.set)) c.args.number) c.args.members.now
    c.loop-member.missing.items c.add_missing.new.missing.items c.loop-member.member-index _ c.loop-member-test.true c.loop-member.invariant c.in_ok-add_missing.ensures
