use Rattle.std.proofs.Common.{◌≤◌, ◌+◌, ◌∙◌, ap, arith, refl}
use Rattle.wire_runs.specs.Plan.{process_count}
use Rattle.wire_portable.specs.Searched.{Searched, plan_in}
use Rattle.wire_portable.proofs.Added.{one_process, all_processes}
use Rattle.wire_portable.proofs.search.Search.add_all.Goals as goal

pub loop-number-preserved : goal.loop-number-preserved
loop-number-preserved c = one_process c.args.self.now c.args.found.now c.loop-number.found c.add_process.new.found c.loop-number.number (c.loop-number.number + 1) refl c.loop-number.invariant c.in_ok-add_process.ensures

pub returns : goal.returns
returns c =
    let count = rw (c.plan.ensures ∙ ap (λ (v : Searched). v.scripts) c.self.view_is) at c.process_count-number-end.ensures in
    let over = c.loop-number-test.false in
    let last : process_count (plan_in c.args.self.now) ≤ c.loop-number.number = omega (arith, over, count) in
    all_processes c.args.self.now c.args.found.now c.loop-number.found c.loop-number.number last c.loop-number.invariant
