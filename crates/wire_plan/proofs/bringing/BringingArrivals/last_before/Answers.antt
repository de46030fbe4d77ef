use Rattle.std.proofs.Common.{◌-◌, sym, subst, map, arith}
use Rattle.wire_runs.specs.Plan.{event_of}
use Rattle.wire_runs.specs.EventLists.{AreAll}
use Rattle.wire_plan.specs.Index.{BringsData}
use Rattle.wire_plan.proofs.FirstBringing.{shown}
use Rattle.wire_plan.proofs.LastBringingArrival.{none_first, last_found, none_of_other}
use Rattle.wire_plan.proofs.bringing.BringingArrivals.last_before.Goals as goal

pub returns-then-lower-eq0 : goal.returns-then-lower-eq0
returns-then-lower-eq0 c = λ plan bringing.
    let list = c.as_slice-list.result.now in
    let are = subst (λ xs. AreAll (BringsData plan) (map event_of xs)) (sym c.as_slice-list.ensures.value) bringing in
    none_first plan (event_of c.args.event) (map event_of list) are c.count_lower-lower.result (c.count_lower-lower.ensures.exactly are.rising) (omega arith)

pub returns-then-arrival-event : goal.returns-then-arrival-event
returns-then-arrival-event c = λ plan bringing.
    let list = c.as_slice-list.result.now in
    let are = subst (λ xs. AreAll (BringsData plan) (map event_of xs)) (sym c.as_slice-list.ensures.value) bringing in
    let lower = c.count_lower-lower.result in
    last_found plan (event_of c.args.event) (map event_of list) are lower (c.count_lower-lower.ensures.exactly are.rising) (lower - 1) _ (omega arith)
    (shown list (lower - 1) _ (omega arith)) c.if-arrival-event.true

pub returns-else-arrival-event : goal.returns-else-arrival-event
returns-else-arrival-event c = λ plan bringing.
    let list = c.as_slice-list.result.now in
    let are = subst (λ xs. AreAll (BringsData plan) (map event_of xs)) (sym c.as_slice-list.ensures.value) bringing in
    let lower = c.count_lower-lower.result in
    none_of_other plan (event_of c.args.event) (map event_of list) are lower (c.count_lower-lower.ensures.exactly are.rising) (lower - 1) _ (omega arith)
    (shown list (lower - 1) _ (omega arith)) c.if-arrival-event.false
