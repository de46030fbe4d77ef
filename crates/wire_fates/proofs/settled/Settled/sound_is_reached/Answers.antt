use Rattle.std.proofs.Common.{◌≡◌, ℕ, subst}
use Rattle.wire_scripts.specs.Planned.{plan_of}
use Rattle.wire_runs.specs.State.{State}
use Rattle.wire_runs.specs.Step.{IsReachable}
use Rattle.wire_runs.specs.Fate.{IsSoundCut}
use Rattle.wire_runs.specs.Races.{IsSettled}
use Rattle.wire_runs.proofs.Fates.{runs_are_sound}
use Rattle.wire_runs.proofs.Reached.{sound_is_reached}
use Rattle.wire_fates.proofs.Marked.{marks_of}
use Rattle.wire_fates.proofs.settled.Settled.sound_is_reached.Goals as goal

pub returns-clause-sound : goal.returns-clause-sound
returns-clause-sound c = λ s. runs_are_sound (plan_of c.args.self.now) s (subst (λ v. IsSettled (plan_of v)) c.self.view_is c.self.invariant.0)

pub returns-clause-reached : goal.returns-clause-reached
returns-clause-reached c = λ cut.
    let inside = plan_of c.self.inside.plan in
    subst (λ v. IsSoundCut (plan_of v) cut → (s : State) × IsReachable (plan_of v) s × ((p : ℕ) → s.done p ≡ cut p)) c.self.view_is
    (sound_is_reached inside cut c.self.invariant.0 (marks_of inside c.self.inside.marks c.self.invariant.1))
