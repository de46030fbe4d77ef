use Rattle.std.proofs.Common.{◌≡◌, map, take, sym, subst, arith}
use Rattle.std.proofs.lemmas.List.{map_more, take_all}
use Rattle.wire_runs.specs.Plan.{event_of}
use Rattle.wire_scripts.specs.Planned.{plan_of}
use Rattle.wire_races.specs.Adding.{AddsFindings}
use Rattle.wire_races.specs.SweepRaces.{AreShared}
use Rattle.wire_fates.proofs.Places.{place_at}
use Rattle.wire_races.proofs.Growing.{adds_none}
use Rattle.wire_races.proofs.SweepRaces.{IsRaceOfOne, one_sweep_more, all_sweeps}
use Rattle.wire_races.proofs.sweep_races.add_stretch.Goals as goal

pub loop-x-init : goal.loop-x-init
loop-x-init c = adds_none (plan_of c.args.marked.now) c.args.found.now _ c.requires.found (λ f r. r.1)

pub add_sweep-requires-clause-sweeps : goal.add_sweep-requires-clause-sweeps
add_sweep-requires-clause-sweeps c =
    ((rw c.plan.ensures at c.sweeps-sweeps.ensures).only c.loop-x.x-index _ (place_at c.sweeps-sweeps.result.now c.loop-x.x-index _ c.loop-x-test.true)).1

pub add_sweep-requires-clause-shared : goal.add_sweep-requires-clause-shared
add_sweep-requires-clause-shared c =
    subst (λ p. AreShared (plan_of c.args.marked.now) p c.args.shares.now)
    (sym ((rw c.plan.ensures at c.sweeps-sweeps.ensures).only c.loop-x.x-index _ (place_at c.sweeps-sweeps.result.now c.loop-x.x-index _ c.loop-x-test.true)).0) c.requires.shared

pub loop-x-preserved : goal.loop-x-preserved
loop-x-preserved c =
    let plan = plan_of c.args.marked.now in
    let shares = c.args.shares.now in
    let sweeps = c.sweeps-sweeps.result.now in
    let n = c.loop-x.x-index in
    subst (λ l. AddsFindings plan c.args.found.now c.add_sweep.new.found (IsRaceOfOne plan l shares)) (sym (map_more event_of sweeps n _ c.loop-x-test.true))
    (one_sweep_more plan shares (map event_of (take n sweeps)) _ c.args.found.now c.loop-x.found c.add_sweep.new.found c.loop-x.invariant c.in_ok-add_sweep.ensures)

pub returns : goal.returns
returns c =
    let plan = plan_of c.args.marked.now in
    let shares = c.args.shares.now in
    let sweeps = c.sweeps-sweeps.result.now in
    let all : take c.loop-x.x-index sweeps ≡ sweeps = take_all c.loop-x.x-index sweeps (omega arith) in
    all_sweeps plan c.args.lower.number (map event_of sweeps) shares (rw c.plan.ensures at c.sweeps-sweeps.ensures) c.args.found.now c.loop-x.found
    (subst (λ l. AddsFindings plan c.args.found.now c.loop-x.found (IsRaceOfOne plan (map event_of l) shares)) all c.loop-x.invariant)
