use Rattle.std.proofs.Common.{◌∙◌, ap, sym, subst, ◌<◌, ◌≤◌, length, map, get_or, true≢false, arith, eq-eqb, eqb-true}
use Rattle.std.specs.Prelude.{not}
use Rattle.std.proofs.lemmas.List.{length-map}
use Rattle.std.proofs.lemmas.Bool.{not-false}
use Rattle.wire_runs.specs.Plan.{event_of}
use Rattle.wire_runs.specs.EventLists.{AreAll}
use Rattle.wire_scripts.specs.Planned.{plan_of}
use Rattle.wire_types.specs.declared.Event.{Event as CodeEvent}
use Rattle.wire_plan.specs.Index.{BringsData}
use Rattle.wire_plan.specs.Meetings.{is_of_fence}
use Rattle.wire_plan.proofs.Delivering.{reached_where}
use Rattle.wire_plan.proofs.FirstBringing.{shown, none_at_first, none_in_front, first_found, none_of_process, none_left}
use Rattle.wire_plan.proofs.bringing.BringingArrivals.first_from.Goals as goal

abbrev nothing : CodeEvent
nothing = record { proc = record { number = 0 }; at = 0 }

pub loop-place-init : goal.loop-place-init
loop-place-init c =
    let plan = plan_of c.args.events.now in
    let list = c.as_slice-list.result.now in
    let are = subst (λ xs. AreAll (BringsData plan) (map event_of xs)) (sym c.as_slice-list.ensures.value) c.requires.bringing in
    record {
      above = omega arith;
      none = none_at_first plan c.args.from.proc.number c.args.node c.args.from.at (map event_of list) are c.count_lower-first.result (c.count_lower-first.ensures.exactly are.rising);
    }

pub returns-then-ne-clause-first : goal.returns-then-ne-clause-first
returns-then-ne-clause-first c =
    let plan = plan_of c.args.events.now in
    let list = c.as_slice-list.result.now in
    let are = subst (λ xs. AreAll (BringsData plan) (map event_of xs)) (sym c.as_slice-list.ensures.value) c.requires.bringing in
    let within : c.loop-place.place < length list = omega (arith, c.loop-place-test.true) in
    let is = shown list c.loop-place.place nothing within in
    none_of_process plan c.args.from.proc.number c.args.node c.args.from.at (map event_of list) are c.count_lower-first.result (c.count_lower-first.ensures.exactly are.rising)
    c.loop-place.place (get_or list c.loop-place.place nothing) c.loop-place.invariant.above c.loop-place.invariant.none is
    (λ same. true≢false (sym c.if-ne.true ∙ c.ne.ensures ∙ ap not (eq-eqb _ _ same)))

pub fence_at-requires-clause-half : goal.fence_at-requires-clause-half
fence_at-requires-clause-half c =
    let plan = plan_of c.args.events.now in
    let list = c.as_slice-list.result.now in
    let are = subst (λ xs. AreAll (BringsData plan) (map event_of xs)) (sym c.as_slice-list.ensures.value) c.requires.bringing in
    let within : c.loop-place.place < length list = omega (arith, c.loop-place-test.true) in
    let brings = are.only c.loop-place.place _ (shown list c.loop-place.place nothing within) in
    ap is_of_fence brings.arrival.is

pub returns-then-reaches-clause-first : goal.returns-then-reaches-clause-first
returns-then-reaches-clause-first c =
    let plan = plan_of c.args.events.now in
    let list = c.as_slice-list.result.now in
    let are = subst (λ xs. AreAll (BringsData plan) (map event_of xs)) (sym c.as_slice-list.ensures.value) c.requires.bringing in
    let within : c.loop-place.place < length list = omega (arith, c.loop-place-test.true) in
    let e = get_or list c.loop-place.place nothing in
    let is = shown list c.loop-place.place nothing within in
    let brings = are.only c.loop-place.place (event_of e) is in
    let reached = reached_where c.args.events.now c.args.fences.now c.requires.fences e.proc.number e.at c.fence_at.result.number c.args.node brings.members brings.arrival.collect brings.arrival.is
    c.fence_at.ensures brings.members brings.arrival.collect brings.arrival.is in
    first_found plan c.args.from.proc.number c.args.node c.args.from.at (map event_of list) are c.count_lower-first.result (c.count_lower-first.ensures.exactly are.rising)
    c.loop-place.place e c.loop-place.invariant.above c.loop-place.invariant.none is
    (eqb-true e.proc.number c.args.from.proc.number (not-false _ (sym c.ne.ensures ∙ c.if-ne.false)))
    (record { brings = brings; reaches = sym reached ∙ sym c.reaches.ensures.told ∙ c.if-reaches.true })

pub loop-place-preserved : goal.loop-place-preserved
loop-place-preserved c =
    let plan = plan_of c.args.events.now in
    let list = c.as_slice-list.result.now in
    let are = subst (λ xs. AreAll (BringsData plan) (map event_of xs)) (sym c.as_slice-list.ensures.value) c.requires.bringing in
    let within : c.loop-place.place < length list = omega (arith, c.loop-place-test.true) in
    let e = get_or list c.loop-place.place nothing in
    let is = shown list c.loop-place.place nothing within in
    let above = c.loop-place.invariant.above in
    record {
      above = omega (arith, above);
      none = none_in_front plan c.args.from.proc.number c.args.node c.args.from.at (map event_of list) are c.count_lower-first.result (c.count_lower-first.ensures.exactly are.rising)
          c.loop-place.place (event_of e) is
          (λ b.
          let reached = reached_where c.args.events.now c.args.fences.now c.requires.fences e.proc.number e.at c.fence_at.result.number c.args.node b.brings.members b.brings.arrival.collect b.brings.arrival.is
          c.fence_at.ensures b.brings.members b.brings.arrival.collect b.brings.arrival.is in
          true≢false (sym (c.reaches.ensures.told ∙ reached ∙ b.reaches) ∙ c.if-reaches.false))
          c.loop-place.invariant.none;
    }

pub returns-clause-first : goal.returns-clause-first
returns-clause-first c =
    let plan = plan_of c.args.events.now in
    let list = c.as_slice-list.result.now in
    let are = subst (λ xs. AreAll (BringsData plan) (map event_of xs)) (sym c.as_slice-list.ensures.value) c.requires.bringing in
    let over = c.loop-place-test.false in
    let past : length (map event_of list) ≤ c.loop-place.place = omega (arith, over, length-map list event_of) in
    none_left plan c.args.from.proc.number c.args.node c.args.from.at (map event_of list) are c.count_lower-first.result (c.count_lower-first.ensures.exactly are.rising)
    c.loop-place.place past c.loop-place.invariant.none
