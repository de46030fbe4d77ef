use Rattle.std.proofs.Common.{◌≡◌, ◌+◌, ◌≤◌, suc, map, length, refl, sym, subst, arith}
use Rattle.std.proofs.lemmas.Bool.{true≢false}
use Rattle.std.proofs.lemmas.List.{length-map}
use Rattle.wire_runs.specs.Plan.{event_of, node_of}
use Rattle.wire_scripts.specs.Planned.{plan_of}
use Rattle.wire_plan.specs.Index.{AreGetDeliveries}
use Rattle.wire_races.specs.Adding.{AddsFindings}
use Rattle.wire_races.specs.GetRaces.{AreRacesBelow}
use Rattle.wire_fates.proofs.Places.{place_at}
use Rattle.wire_races.proofs.Deliveries.{get_race}
use Rattle.wire_races.proofs.ByGets.{race_more, race_skip, races_done}
use Rattle.wire_races.proofs.get_races.add_get_races.Goals as goal

pub add_race-requires-clause-race : goal.add_race-requires-clause-race
add_race-requires-clause-race c =
    let plan = plan_of c.args.marked.now in
    let get = event_of c.args.asked.get_now in
    let p = c.args.asked.owner.number in
    let gets = c.gets_to-gets.result.now in
    let n = c.gets.place in
    let are = subst (λ m. AreGetDeliveries plan p c.args.asked.key m (map event_of gets)) c.requires.node ((rw c.plan-plan.ensures at c.gets_to-gets.ensures) c.requires.late.opened.once) in
    rw c.plan-plan.ensures (get_race plan get p c.args.asked.key c.requires.late _ (are.only n _ (place_at gets n _ c.gets-test.true)) (c.if-may_race.ensures.0 refl))

pub gets-preserved-then-may_race : goal.gets-preserved-then-may_race
gets-preserved-then-may_race c =
    let plan = plan_of c.args.marked.now in
    let get = event_of c.args.asked.get_now in
    let p = c.args.asked.owner.number in
    let node = node_of plan c.args.asked.get_now.proc.number in
    let gets = c.gets_to-gets.result.now in
    let n = c.gets.place in
    let are = subst (λ m. AreGetDeliveries plan p c.args.asked.key m (map event_of gets)) c.requires.node ((rw c.plan-plan.ensures at c.gets_to-gets.ensures) c.requires.late.opened.once) in
    let next : suc n ≡ n + 1 = omega arith in
    subst (λ k. AddsFindings plan c.args.found.now c.add_race.new.found (AreRacesBelow plan get p c.args.asked.key node (map event_of gets) k)) next
    (race_more plan get p c.args.asked.key node (map event_of gets) are c.args.found.now c.gets.found c.add_race.new.found n _ (place_at gets n _ c.gets-test.true)
    (c.if-may_race.ensures.0 refl) c.gets.invariant (rw c.plan-plan.ensures at c.in_ok-add_race.ensures))

pub gets-preserved : goal.gets-preserved
gets-preserved c =
    let plan = plan_of c.args.marked.now in
    let get = event_of c.args.asked.get_now in
    let p = c.args.asked.owner.number in
    let node = node_of plan c.args.asked.get_now.proc.number in
    let gets = c.gets_to-gets.result.now in
    let n = c.gets.place in
    let are = subst (λ m. AreGetDeliveries plan p c.args.asked.key m (map event_of gets)) c.requires.node ((rw c.plan-plan.ensures at c.gets_to-gets.ensures) c.requires.late.opened.once) in
    race_skip plan get p c.args.asked.key node (map event_of gets) are c.args.found.now c.gets.found n c.process_end-place.result _ c.process_end-place.ensures.after
    (place_at gets n _ c.gets-test.true) (λ may. true≢false (sym (c.if-may_race.ensures.1 may))) c.process_end-place.ensures.last c.gets.invariant

pub returns : goal.returns
returns c =
    let plan = plan_of c.args.marked.now in
    let get = event_of c.args.asked.get_now in
    let p = c.args.asked.owner.number in
    let node = node_of plan c.args.asked.get_now.proc.number in
    let gets = c.gets_to-gets.result.now in
    let are = subst (λ m. AreGetDeliveries plan p c.args.asked.key m (map event_of gets)) c.requires.node ((rw c.plan-plan.ensures at c.gets_to-gets.ensures) c.requires.late.opened.once) in
    let over = c.gets-test.false in
    let count = length-map gets event_of in
    let end : length (map event_of gets) ≤ c.gets.place = omega (arith, over, count) in
    races_done plan get p c.args.asked.key node (map event_of gets) are c.args.found.now c.gets.found c.gets.place end c.gets.invariant

pub add_race-requires-clause-found : goal.add_race-requires-clause-found
add_race-requires-clause-found c = rw c.plan-plan.ensures c.gets.invariant.found
