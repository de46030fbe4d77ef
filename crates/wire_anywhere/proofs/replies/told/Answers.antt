use Rattle.std.proofs.Common.{arith}
use Rattle.wire_runs.specs.Plan.{event_of}
use Rattle.wire_scripts.specs.Planned.{plan_of}
use Rattle.wire_anywhere.proofs.Coming.{end_within}
use Rattle.wire_anywhere.proofs.PlacedReplies.{settled_here, no_get}
use Rattle.wire_anywhere.proofs.replies.told.Goals as goal

pub kind-requires : goal.kind-requires
kind-requires c = rw c.plan-plan.ensures (
    let most = end_within (plan_of c.args.marked.now) (settled_here (plan_of c.args.marked.now) c.requires.settled) c.args.event.proc.number in
    let done = c.requires.answered in
    omega (arith, most, done))

pub returns-in_default : goal.returns-in_default
returns-in_default c =
    no_get (plan_of c.args.marked.now) c.requires.settled (event_of c.args.event) c.args.marked.now.sets c.kind.result (rw c.plan-plan.ensures at c.kind.ensures)
    c.in_default.not-Get c.in_default.not-GetNow
