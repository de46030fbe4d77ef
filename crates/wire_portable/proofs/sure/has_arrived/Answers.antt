use Rattle.std.proofs.lemmas.Bool.{ltb-true}
use Rattle.wire_runs.specs.Plan.{event_of}
use Rattle.wire_portable.proofs.sure.has_arrived.Goals as goal

pub returns-in-Some : goal.returns-in-Some
returns-in-Some c = λ t.
    let a = c.in-Some.ensures in
    record { k = a.k; arrival = event_of c.in-Some.own; is = a.is; own = a.proc; earlier = ltb-true c.in-Some.own.at c.args.get.at t }
