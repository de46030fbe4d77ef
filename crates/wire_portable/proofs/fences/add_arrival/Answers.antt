use Rattle.std.proofs.Common.{sym, ◌∙◌}
use Rattle.std.proofs.lemmas.Option.{same_Some}
use Rattle.std.proofs.lemmas.Result.{on_ok_weaker}
use Rattle.wire_runs.specs.Plan.{event_of, set_of}
use Rattle.wire_scripts.specs.Scripts.{set_at}
use Rattle.wire_portable.specs.Fences.{IsPlainArrival, IsPlainCall}
use Rattle.wire_portable.proofs.Added.{adds_nothing, adds_other}
use Rattle.wire_portable.proofs.PlainFences.{no_arrival, plain_arrival}
use Rattle.wire_portable.proofs.fences.add_arrival.Goals as goal

pub returns-in-Arrive : goal.returns-in-Arrive
returns-in-Arrive c =
    let s = c.args.plan.now in
    let rows = c.args.spelling.now in
    let table = c.args.sets.now in
    let z = event_of c.args.arrival in
    let members = set_of (set_at s.sets c.in-Arrive.set) in
    on_ok_weaker c.add_call.result (adds_other c.args.found.now c.add_call.new.found (λ library. IsPlainCall library s rows table members c.in-Arrive.collect z)
    (λ library. IsPlainArrival library s rows table z)
    (λ library plain. plain_arrival library s rows table z members c.in-Arrive.collect c.in-Arrive.ensures plain)) c.add_call.ensures

pub returns-in_default : goal.returns-in_default
returns-in_default c = adds_nothing _ _ (λ library members collect is alive.
    absurd (no_arrival c.args.plan.now.sets c.kind.result c.in_default.not-Arrive members collect (same_Some _ _ (sym c.kind.ensures ∙ is))))
