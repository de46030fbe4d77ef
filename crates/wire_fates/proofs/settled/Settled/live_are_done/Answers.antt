use Rattle.std.proofs.Common.{subst}
use Rattle.wire_scripts.specs.Planned.{plan_of}
use Rattle.wire_runs.proofs.HaveFates.{have_fates}
use Rattle.wire_fates.specs.Waiting.{NoneWaitsForEver, LiveAreDone}
use Rattle.wire_fates.proofs.Marked.{marks_of}
use Rattle.wire_fates.proofs.LiveDone.{live_are_done}
use Rattle.wire_fates.proofs.settled.Settled.live_are_done.Goals as goal

pub returns : goal.returns
returns c =
    let inside = plan_of c.self.inside.plan in
    subst (λ v. NoneWaitsForEver (plan_of v) → LiveAreDone (plan_of v)) c.self.view_is
    (live_are_done inside c.self.invariant.0 (have_fates inside c.self.invariant.0 (marks_of inside c.self.inside.marks c.self.invariant.1)))
