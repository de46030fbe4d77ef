use Rattle.std.proofs.Common.{ℕ, List, map, sym, subst}
use Rattle.std.proofs.lemmas.Result.{on_ok_weaker}
use Rattle.wire_runs.specs.Plan.{event_of}
use Rattle.wire_runs.specs.Order.{IsArrival}
use Rattle.wire_scripts.specs.Planned.{plan_of}
use Rattle.wire_plan.specs.Index.{AreArrivals}
use Rattle.wire_fates.specs.Deliveries.{IsLate}
use Rattle.wire_runs.proofs.Anywhere.{far_not_reader}
use Rattle.wire_anywhere.proofs.Far.{far_here, none_far, one_late, not_late, not_far}
use Rattle.wire_anywhere.proofs.Races.{arrival_source}
use Rattle.wire_anywhere.proofs.far_races.add_late.Goals as goal

pub returns-in_default : goal.returns-in_default
returns-in_default c =
    let plan = plan_of c.args.marked.now in
    let get = event_of c.args.asked.get_now in
    not_late plan get c.args.asked.owner.number c.args.asked.key c.args.found.now c.args.arrival.at
    (λ x l. c.in_default.ensures x (subst (λ q. IsLate plan get (record { proc = q.number; at = c.args.arrival.at }) x) (sym c.requires.proc) l))

pub returns-in_default-first_lacking : goal.returns-in_default-first_lacking
returns-in_default-first_lacking c =
    let plan = plan_of c.args.marked.now in
    let get = event_of c.args.asked.get_now in
    let p = c.args.asked.owner.number in
    let at = c.args.arrival.at in
    let x = event_of c.in-Some.source in
    let places = map event_of c.all_arrivals-arrivals.result.now in
    let late = subst (λ q. IsLate plan get (record { proc = q.number; at = at }) x) c.requires.proc c.in-Some.ensures in
    let those = subst (λ q. (members : List ℕ) (j : ℕ) → IsArrival plan members j (record { proc = q.number; at = at }) → AreArrivals plan members j places) c.requires.proc
    (rw c.plan-plan.ensures at c.all_arrivals-arrivals.ensures) in
    not_far plan get p c.args.asked.key c.args.found.now at x late
    (none_far plan get p c.args.asked.key c.requires.unsure at x c.requires.delivers late places those c.in_default-first_lacking.ensures)

pub add_race-requires-clause-source : goal.add_race-requires-clause-source
add_race-requires-clause-source c = rw c.plan-plan.ensures (arrival_source (plan_of c.args.marked.now) (event_of c.in-Some.source) _ _ c.in-Some.ensures.of_it)

pub add_race-requires-clause-another : goal.add_race-requires-clause-another
add_race-requires-clause-another c = λ e.
    let plan = plan_of c.args.marked.now in
    let get = event_of c.args.asked.get_now in
    let p = c.args.asked.owner.number in
    let at = c.args.arrival.at in
    let x = event_of c.in-Some.source in
    let m = c.in-Some-first_lacking.other.number in
    let places = map event_of c.all_arrivals-arrivals.result.now in
    let late = subst (λ q. IsLate plan get (record { proc = q.number; at = at }) x) c.requires.proc c.in-Some.ensures in
    let those = subst (λ q. (members : List ℕ) (j : ℕ) → IsArrival plan members j (record { proc = q.number; at = at }) → AreArrivals plan members j places) c.requires.proc
    (rw c.plan-plan.ensures at c.all_arrivals-arrivals.ensures) in
    far_not_reader plan x get p c.args.asked.key m
    (far_here plan get p c.args.asked.key c.requires.unsure at x c.requires.delivers late places those m c.in-Some-first_lacking.ensures).far (sym e)

pub returns : goal.returns
returns c =
    let plan = plan_of c.args.marked.now in
    let get = event_of c.args.asked.get_now in
    let p = c.args.asked.owner.number in
    let at = c.args.arrival.at in
    let x = event_of c.in-Some.source in
    let m = c.in-Some-first_lacking.other.number in
    let places = map event_of c.all_arrivals-arrivals.result.now in
    let late = subst (λ q. IsLate plan get (record { proc = q.number; at = at }) x) c.requires.proc c.in-Some.ensures in
    let those = subst (λ q. (members : List ℕ) (j : ℕ) → IsArrival plan members j (record { proc = q.number; at = at }) → AreArrivals plan members j places) c.requires.proc
    (rw c.plan-plan.ensures at c.all_arrivals-arrivals.ensures) in
    let far = far_here plan get p c.args.asked.key c.requires.unsure at x c.requires.delivers late places those m c.in-Some-first_lacking.ensures in
    on_ok_weaker c.add_race.result (λ h. one_late plan get p c.args.asked.key c.args.found.now c.add_race.new.found at x m c.requires.delivers late far h) (rw c.plan-plan.ensures at c.add_race.ensures)

pub late_source-requires-clause-those : goal.late_source-requires-clause-those
late_source-requires-clause-those c = rw c.plan-plan.ensures at c.all_arrivals-arrivals.ensures
