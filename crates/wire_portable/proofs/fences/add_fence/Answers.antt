use Rattle.std.proofs.Common.{◌<◌, sym, subst, ◌∙◌}
use Rattle.std.proofs.lemmas.Bool.{true≢false}
use Rattle.wire_runs.specs.Plan.{event_of, event_count}
use Rattle.wire_scripts.specs.Planned.{plan_of}
use Rattle.wire_portable.specs.Adding.{AddsUnportable}
use Rattle.wire_portable.specs.Fences.{IsPlainArrival, TellsJobs}
use Rattle.wire_portable.proofs.Added.{adds_nothing}
use Rattle.std.proofs.lemmas.Result.{on_ok_weaker}
use Rattle.wire_portable.proofs.fences.add_fence.Goals as goal

pub add_arrival-requires : goal.add_arrival-requires
add_arrival-requires c = record {
  within = subst (λ s. c.args.arrival.at < event_count (plan_of s) c.args.arrival.proc.number) (sym c.plan.ensures) c.requires.within;
  jobs = subst (λ s. TellsJobs s c.args.sets.now) (sym c.plan.ensures) c.requires.jobs;
}

pub returns-then-live : goal.returns-then-live
returns-then-live c =
    on_ok_weaker c.add_arrival.result
    (subst (λ s. AddsUnportable c.args.found.now c.add_arrival.new.found (λ library. IsPlainArrival library s c.args.spelling.now c.args.sets.now (event_of c.args.arrival))) c.plan.ensures)
    c.add_arrival.ensures

pub returns-else-live : goal.returns-else-live
returns-else-live c = adds_nothing _ _ (λ library members collect is alive. absurd (true≢false (sym (c.live.ensures.1 alive) ∙ c.if-live.false)))
