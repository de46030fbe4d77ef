use Rattle.std.proofs.Common.{◌≡◌, ◌-◌, ap, sym, refl, arith, suc, ◌∷◌, [], ◌++◌, length}
use Rattle.wire_runs.specs.Plan.{process_count}
use Rattle.wire_scripts.specs.Planned.{plan_of}
use Rattle.wire_runs.specs.State.{start}
use Rattle.wire_runs.specs.PlainRun.{plain_from}
use Rattle.wire_runs.specs.Plan.{event_total}
use Rattle.wire_runs.proofs.PlainRun.{lowest_enabled}
use Rattle.wire_runs.proofs.Runs.{legal_push}
use Rattle.wire_runs.proofs.Lists.{one_longer}
use Rattle.wire_core.specs.Course.{state_of}
use Rattle.wire_core.proofs.Ranks.{nobody}
use Rattle.wire_core.proofs.Steps.{step_history, ahead_step}
use Rattle.wire_core.proofs.running.Core.run_lowest.Goals as goal

pub steps-init : goal.steps-init
steps-init c =
    let now = c.args.self.now in
    let plan = plan_of now.scripts in
    let none : event_total plan - (length now.history - length now.history) ≡ event_total plan = omega arith in
    record {
      scripts = refl;
      legal = c.history.ensures.legal;
      longer = omega arith;
      ahead = ap (λ n. now.history ++ plain_from plan n (state_of now)) none;
    }

pub step-requires : goal.step-requires
step-requires c = rw c.in-Some.ensures.same (lowest_enabled (plan_of c.steps.self.scripts) (state_of c.steps.self) (process_count (plan_of c.steps.self.scripts)) c.in-Some.proc.number
    (sym c.in-Some.ensures.lowest))

pub steps-smaller : goal.steps-smaller
steps-smaller c =
    let plan = plan_of c.steps.self.scripts in
    let on = lowest_enabled plan (state_of c.steps.self) (process_count plan) c.in-Some.proc.number (sym c.in-Some.ensures.lowest) in
    let room = step_history plan c.steps.self.history c.in-Some.proc.number c.steps.invariant.legal on in
    let longer = one_longer c.steps.self.history c.in-Some.proc.number in
    rw (c.step.ensures, c.in-Some.ensures.same) (omega (arith, room, longer))

pub steps-preserved : goal.steps-preserved
steps-preserved c =
    let plan = plan_of c.steps.self.scripts in
    let h = c.steps.self.history in
    let p = c.in-Some.proc.number in
    let initial = c.args.self.now in
    let on = lowest_enabled plan (state_of c.steps.self) (process_count plan) p (sym c.in-Some.ensures.lowest) in
    let room = step_history plan h p c.steps.invariant.legal on in
    let push = one_longer h p in
    let longer = c.steps.invariant.longer in
    let more : event_total plan - (length h - length initial.history) ≡ suc (event_total plan - (length (h ++ p ∷ []) - length initial.history)) = omega (arith, room, push, longer) in
    rw (c.step.ensures, c.in-Some.ensures.same)
    record {
      scripts = c.steps.invariant.scripts;
      legal = legal_push plan start h p c.steps.invariant.legal on;
      longer = omega (arith, push, longer);
      ahead = ahead_step plan h p (event_total plan - (length (h ++ p ∷ []) - length initial.history)) _ _ (sym c.in-Some.ensures.lowest) more c.steps.invariant.ahead;
    }

pub returns-clause-ended : goal.returns-clause-ended
returns-clause-ended c = rw c.in_default.ensures.same (nobody (plan_of c.steps.self.scripts) (state_of c.steps.self) (sym c.in_default.ensures.lowest))
