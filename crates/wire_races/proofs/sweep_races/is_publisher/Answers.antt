use Rattle.std.proofs.Common.{◌≡◌, ◌∙◌, ap, map, sym, subst, true, arith, inl, inr}
use Rattle.std.proofs.lemmas.Bool.{cases_eq}
use Rattle.std.proofs.lemmas.List.{length-map}
use Rattle.std.proofs.lemmas.Option.{same_Some}
use Rattle.std.specs.Prelude.{slice_get}
use Rattle.wire_runs.specs.Plan.{Event, event_of, event_count}
use Rattle.wire_runs.specs.Names.{publishes}
use Rattle.wire_scripts.specs.Planned.{plan_of}
use Rattle.wire_plan.proofs.Published.{publisher}
use Rattle.wire_fates.proofs.Places.{place_at}
use Rattle.wire_races.proofs.Swept.{none_publishes}
use Rattle.wire_races.proofs.sweep_races.is_publisher.Goals as goal

pub returns-then-publish-proc : goal.returns-then-publish-proc
returns-then-publish-proc c =
    let plan = plan_of c.args.plan.now in
    let those = c.publishes-publishes.result.now in
    let is = c.publishes-publishes.ensures.only c.loop-publish.publish-index _ (place_at those c.loop-publish.publish-index _ c.loop-publish-test.true) in
    sym (subst (λ q. publishes plan q c.args.name (event_count plan q) ≡ true) c.if-publish-proc.true (publisher plan _ c.args.name is))

pub loop-publish-preserved : goal.loop-publish-preserved
loop-publish-preserved c = λ k z lt at same.
    let those = c.publishes-publishes.result.now in
    let n = c.loop-publish.publish-index in
    elim (cases_eq k n) [
      | inl e ↦ (
          let here = place_at those n _ c.loop-publish-test.true in
          let one = same_Some _ _ (sym here ∙ ap (slice_get (map event_of those)) (sym e) ∙ at) in
          c.if-publish-proc.false (ap (λ (v : Event). v.proc) one ∙ same))
      | inr ne ↦ c.loop-publish.invariant k z (omega (arith, lt, ne)) at same
    ]

pub returns : goal.returns
returns c =
    let those = c.publishes-publishes.result.now in
    let size = length-map those event_of in
    let end = c.loop-publish-test.false in
    sym (none_publishes (plan_of c.args.plan.now) c.args.name c.args.proc.number (map event_of those) c.publishes-publishes.ensures
    (λ k z lt at. c.loop-publish.invariant k z (omega (arith, lt, size, end)) at))
