use Rattle.std.proofs.Common.{◌≡◌, ◌∙◌, ◌+◌, arith}
use Rattle.wire_runs.specs.Plan.{process_count}
use Rattle.wire_scripts.specs.Planned.{plan_of}
use Rattle.wire_races.proofs.Growing.{adds_none}
use Rattle.wire_races.proofs.SweepRaces.{none_below, one_process_more, every_process}
use Rattle.wire_races.proofs.sweep_races.add_sweep_races.Goals as goal

pub loop-number-init : goal.loop-number-init
loop-number-init c = adds_none (plan_of c.args.marked.now) c.args.found.now _ c.requires (none_below (plan_of c.args.marked.now))

pub loop-number-preserved : goal.loop-number-preserved
loop-number-preserved c =
    let plan = plan_of c.args.marked.now in
    one_process_more plan c.loop-number.number (c.loop-number.number + 1) (omega arith) c.args.found.now c.loop-number.found c.add_process.new.found c.loop-number.invariant
    c.in_ok-add_process.ensures

pub returns : goal.returns
returns c =
    let plan = plan_of c.args.marked.now in
    let last : c.loop-number.number ≡ process_count plan = (omega arith) ∙ (rw c.plan.ensures at c.process_count-number-end.ensures) in
    every_process plan c.loop-number.number last c.args.found.now c.loop-number.found c.loop-number.invariant
