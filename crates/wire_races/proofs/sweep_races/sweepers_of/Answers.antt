use Rattle.std.proofs.Common.{◌∙◌, ◌+◌, ap, map, sym, subst, arith}
use Rattle.std.proofs.lemmas.List.{length-map, map-append}
use Rattle.wire_runs.specs.Plan.{event_of}
use Rattle.wire_types.specs.declared.Proc.{Proc}
use Rattle.wire_scripts.specs.Planned.{plan_of}
use Rattle.wire_scripts.specs.Scripts.{numbers_of}
use Rattle.wire_fates.proofs.Places.{place_at}
use Rattle.wire_races.proofs.Swept.{AreSweepersTo, IsKnown, sweepers_same, sweepers_more, sweepers_all}
use Rattle.wire_races.proofs.sweep_races.sweepers_of.Goals as goal
use Rattle.wire_races.proofs.sweep_races.sweepers_of.Goals.{then-is_new+in_ok-push, else-is_new}

pub loop-publish-preserved : goal.loop-publish-preserved
loop-publish-preserved c =
    let plan = plan_of c.args.plan.now in
    let name = c.args.name in
    let publishes = c.publishes-publishes.result.now in
    let n = c.loop-publish.publish-index in
    let at = place_at publishes n _ c.loop-publish-test.true in
    let before = numbers_of c.loop-publish.procs.items in
    elim c.if-is_new.branch [
      | then-is_new+in_ok-push w ↦
          let items = ap numbers_of w.in_ok-push.ensures.items ∙ map-append (λ (p : Proc). p.number) c.loop-publish.procs.items _ in
          rw w.procs-is (subst (AreSweepersTo plan name (map event_of publishes) (n + 1)) (sym items)
          (sweepers_more plan name (map event_of publishes) c.publishes-publishes.ensures n before _ at c.loop-publish.invariant))
      | else-is_new w ↦
          rw w.procs-is (sweepers_same plan name (map event_of publishes) c.publishes-publishes.ensures n before _ at
          (subst (IsKnown plan _) c.as_slice.ensures.value (c.is_new.ensures w.if-is_new.false)) c.loop-publish.invariant)
    ]

pub returns : goal.returns
returns c =
    let publishes = c.publishes-publishes.result.now in
    let size = length-map publishes event_of in
    let end = c.loop-publish-test.false in
    let procs = numbers_of c.loop-publish.procs.items in
    sweepers_all (plan_of c.args.plan.now) c.args.name (map event_of publishes) c.publishes-publishes.ensures c.loop-publish.publish-index procs (omega (arith, size, end))
    c.loop-publish.invariant
