use Rattle.std.proofs.Common.{◌≡◌, map, Some, suc, ap, sym, refl, arith, true}
use Rattle.wire_runs.specs.Plan.{process_count}
use Rattle.wire_scripts.specs.Planned.{plan_of}
use Rattle.wire_runs.specs.Step.{is_enabled, run}
use Rattle.wire_core.proofs.Waiting.{first_within, none_before}
use Rattle.wire_runs.specs.PlainRun.{lowest}
use Rattle.wire_runs.proofs.PlainRun.{lowest_stays}
use Rattle.wire_core.specs.Course.{state_of}
use Rattle.wire_core.proofs.running.Core.next_lowest.Goals as goal

pub returns-then-ready-clause-lowest : goal.returns-then-ready-clause-lowest
returns-then-ready-clause-lowest c =
    let number = ap (λ p. p.number) c.new-proc.ensures in
    let plan = plan_of c.args.self.now.scripts in
    let s = state_of c.args.self.now in
    let same = c.loop-number.invariant.same in
    let on : is_enabled plan s c.loop-number.number ≡ true = rw (number, same) at (sym c.if-ready.ensures) in
    let here : lowest plan s (suc c.loop-number.number) ≡ Some c.loop-number.number = rw (c.loop-number.invariant.none, on) refl in
    let scripts = ap (λ course. course.scripts) c.self.view_is in
    let count = rw scripts at c.process_count-number-end.ensures in
    let below = c.loop-number-test.true in
    rw number (sym (lowest_stays plan s (suc c.loop-number.number) (process_count plan) c.loop-number.number (omega (arith, count, below)) here))

pub returns-then-ready-clause-same : goal.returns-then-ready-clause-same
returns-then-ready-clause-same c = c.loop-number.invariant.same

pub loop-number-init : goal.loop-number-init
loop-number-init c =
    let scripts = c.self.inside.plan.now in
    let s = run (plan_of scripts) (map (λ p. p.number) c.self.inside.history.items) in
    let le = first_within scripts c.self.inside.fences.now s c.self.inside.waits c.lowest-number.result c.self.invariant.noted c.lowest-number.ensures in
    let count = c.process_count-number-end.ensures in
    record {
      same = refl;
      within = omega (arith, le, count);
      none = rw (← c.self.view_is) (none_before scripts c.self.inside.fences.now s c.self.inside.waits c.lowest-number.result c.self.invariant.noted c.lowest-number.ensures);
    }
