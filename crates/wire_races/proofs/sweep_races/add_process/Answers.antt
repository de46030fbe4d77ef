use Rattle.std.proofs.Common.{◌∙◌, map, sym, subst, eqb-true}
use Rattle.std.proofs.lemmas.Result.{on_ok_weaker}
use Rattle.wire_runs.specs.Plan.{event_of}
use Rattle.wire_scripts.specs.Planned.{plan_of}
use Rattle.wire_plan.proofs.Tables.{none_swept}
use Rattle.wire_races.specs.SweepRaces.{AreShared}
use Rattle.wire_races.proofs.Growing.{adds_none}
use Rattle.wire_races.proofs.SweepRaces.{none_of_it, both_publish, all_shared}
use Rattle.wire_races.proofs.sweep_races.add_process.Goals as goal

pub returns-then-is_empty : goal.returns-then-is_empty
returns-then-is_empty c =
    let plan = plan_of c.args.marked.now in
    let p = c.args.proc.number in
    adds_none plan c.args.found.now _ c.requires (none_of_it plan p (map event_of c.sweeps.result.now) (rw c.plan-plan.ensures at c.sweeps.ensures)
    (none_swept c.sweeps.result.now (eqb-true _ _ (sym c.is_empty.ensures ∙ c.if-is_empty.true))))

pub add_shared-requires-clause-shared : goal.add_shared-requires-clause-shared
add_shared-requires-clause-shared c =
    let plan = plan_of c.args.marked.now in
    subst (AreShared plan c.args.proc.number) (sym c.as_slice-2.ensures.value)
    (both_publish plan c.args.proc.number c.in_ok-names.names.items c.in_ok-shares.shares.items (rw c.plan-plan.ensures at c.in_ok-names.ensures.those)
    (rw (c.plan-plan.ensures, c.as_slice.ensures.value) at c.in_ok-shares.ensures.those))

pub returns : goal.returns
returns c =
    let plan = plan_of c.args.marked.now in
    let p = c.args.proc.number in
    let names = c.in_ok-names.names.items in
    let shares = c.in_ok-shares.shares.items in
    let published = (rw c.plan-plan.ensures at c.in_ok-names.ensures.those) in
    let are = (rw (c.plan-plan.ensures, c.as_slice.ensures.value) at c.in_ok-shares.ensures.those) in
    on_ok_weaker c.add_shared.result (λ h. all_shared plan p names shares published are c.args.found.now c.add_shared.new.found h) (rw c.as_slice-2.ensures.value at c.add_shared.ensures)
