use Rattle.std.proofs.Common.{◌∙◌, ◌+◌, ap, map, sym, subst, arith}
use Rattle.std.proofs.lemmas.Bool.{true≢false}
use Rattle.std.proofs.lemmas.List.{length-map, map-append}
use Rattle.wire_runs.specs.Plan.{event_of}
use Rattle.wire_scripts.specs.Planned.{plan_of}
use Rattle.wire_runs.specs.EventLists.{AreAll}
use Rattle.wire_fates.proofs.Places.{place_at}
use Rattle.wire_races.proofs.NameRaces.{plain_there}
use Rattle.wire_races.proofs.Rivals.{IsWriterBelow, one_writer, no_writer, every_writer}
use Rattle.wire_races.proofs.name_races.writers_of.Goals as goal
use Rattle.wire_races.proofs.name_races.writers_of.Goals.{then-is_write+in_ok-push, else-is_write}

pub is_write-requires : goal.is_write-requires
is_write-requires c =
    let plan = plan_of c.args.plan.now in
    let calls = c.name_calls-calls.result.now in
    plain_there plan c.args.name _ (c.name_calls-calls.ensures.only c.loop-event.event-index _ (place_at calls c.loop-event.event-index _ c.loop-event-test.true))

pub loop-event-preserved : goal.loop-event-preserved
loop-event-preserved c =
    let plan = plan_of c.args.plan.now in
    let name = c.args.name in
    let calls = c.name_calls-calls.result.now in
    let all = c.name_calls-calls.ensures in
    let n = c.loop-event.event-index in
    let at = place_at calls n _ c.loop-event-test.true in
    let before = map event_of c.loop-event.writers.items in
    elim c.if-is_write.branch [
      | then-is_write+in_ok-push w ↦
          let items = ap (map event_of) w.in_ok-push.ensures.items ∙ map-append event_of c.loop-event.writers.items _ in
          rw w.writers-is (subst (λ l. AreAll (IsWriterBelow plan name (map event_of calls) (n + 1)) l) (sym items)
          (one_writer plan name (map event_of calls) all n (n + 1) before _ (omega arith) at (sym c.is_write.ensures ∙ w.if-is_write.true) c.loop-event.invariant))
      | else-is_write w ↦
          rw w.writers-is (no_writer plan name (map event_of calls) all n (n + 1) before _ (omega arith) at (λ t. true≢false (sym t ∙ sym c.is_write.ensures ∙ w.if-is_write.false))
          c.loop-event.invariant)
    ]

pub returns : goal.returns
returns c =
    let calls = c.name_calls-calls.result.now in
    let size = length-map calls event_of in
    let end = c.loop-event-test.false in
    every_writer (plan_of c.args.plan.now) c.args.name (map event_of calls) c.name_calls-calls.ensures c.loop-event.event-index (map event_of c.loop-event.writers.items) (omega (arith, size, end))
    c.loop-event.invariant
