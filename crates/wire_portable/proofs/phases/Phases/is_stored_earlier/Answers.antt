use Rattle.std.proofs.Common.{ap, arith}
use Rattle.std.proofs.lemmas.Bool.{ltb-true}
use Rattle.wire_runs.specs.Plan.{event_of}
use Rattle.wire_scripts.specs.Planned.{plan_of}
use Rattle.wire_portable.proofs.PhaseRows.{stored_earlier}
use Rattle.wire_portable.proofs.phases.Phases.is_stored_earlier.Goals as goal

pub returns-in-Some : goal.returns-in-Some
returns-in-Some c = λ t phases is asked.
    let lt = ltb-true c.phase.result c.phase-in-Some.result t in
    let stored = c.phase.ensures in
    let got = c.phase-in-Some.ensures in
    let found = c.in-Some.ensures in
    stored_earlier (plan_of c.args.plan.now) c.args.self.now c.args.asked.owner.number c.args.asked.key (event_of c.in-Some.store) (event_of c.args.get)
    phases (ap (λ q. q.number) found.0) found.1 is (omega (arith, lt, stored, got)) asked
