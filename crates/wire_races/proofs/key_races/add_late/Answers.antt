use Rattle.std.proofs.Common.{sym, subst}
use Rattle.std.proofs.lemmas.Result.{on_ok_weaker}
use Rattle.wire_runs.specs.Plan.{event_of, node_of}
use Rattle.wire_scripts.specs.Planned.{plan_of}
use Rattle.wire_fates.specs.Deliveries.{IsLate}
use Rattle.wire_races.proofs.Deliveries.{late_race, one_late, not_late}
use Rattle.wire_races.proofs.key_races.add_late.Goals as goal

pub add_race-requires-clause-race : goal.add_race-requires-clause-race
add_race-requires-clause-race c =
    let plan = plan_of c.args.marked.now in
    let x = event_of c.in-Some.source in
    rw c.plan.ensures (
    late_race plan (event_of c.args.asked.get_now) c.args.asked.owner.number c.args.asked.key c.requires.late c.args.arrival.at x c.requires.delivers
    (subst (λ q. IsLate plan (event_of c.args.asked.get_now) (record { proc = q.number; at = c.args.arrival.at }) x) c.requires.proc c.in-Some.ensures))

pub returns-in-Some : goal.returns-in-Some
returns-in-Some c =
    let plan = plan_of c.args.marked.now in
    let x = event_of c.in-Some.source in
    on_ok_weaker c.add_race.result (λ h. one_late plan (event_of c.args.asked.get_now) c.args.asked.owner.number c.args.asked.key (node_of plan c.args.asked.get_now.proc.number) c.args.found.now
    c.add_race.new.found c.args.arrival.at x c.requires.delivers
    (subst (λ q. IsLate plan (event_of c.args.asked.get_now) (record { proc = q.number; at = c.args.arrival.at }) x) c.requires.proc c.in-Some.ensures) h) (rw c.plan.ensures at c.add_race.ensures)

pub returns-in-None : goal.returns-in-None
returns-in-None c =
    let plan = plan_of c.args.marked.now in
    not_late plan (event_of c.args.asked.get_now) c.args.asked.owner.number c.args.asked.key (node_of plan c.args.asked.get_now.proc.number) c.args.found.now c.args.arrival.at
    (λ x l. c.in-None.ensures x (subst (λ q. IsLate plan (event_of c.args.asked.get_now) (record { proc = q.number; at = c.args.arrival.at }) x) (sym c.requires.proc) l)) c.requires.found

pub add_race-requires-clause-found : goal.add_race-requires-clause-found
add_race-requires-clause-found c = rw c.plan.ensures c.requires.found
