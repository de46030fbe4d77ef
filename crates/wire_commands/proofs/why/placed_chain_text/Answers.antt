use Rattle.std.proofs.Common.{◌∙◌, sym, subst, map, List, true, false}
use Rattle.std.proofs.lemmas.Result.{IfOk-weaker}
use Rattle.wire_runs.specs.Plan.{event_of}
use Rattle.wire_types.specs.declared.Event.{Event}
use Rattle.wire_scripts.specs.Planned.{plan_of}
use Rattle.wire_report.specs.There.{AreThere}
use Rattle.wire_report.proofs.Chains.{shown_there, none_of}
use Rattle.wire_commands.specs.Chains.{chain_form}
use Rattle.wire_commands.proofs.Ordered.{places_before, places_after, places_unordered}
use Rattle.wire_command.specs.Answer.{rows_in}
use Rattle.wire_types.specs.Forms.{is_json}
use Rattle.wire_commands.proofs.why.placed_chain_text.Goals as goal

pub ordered_text-requires : goal.ordered_text-requires
ordered_text-requires c =
    let found = rw (c.in-Some.is, c.plan-plan.ensures) at c.in_ok-chain.ensures.shown in
    rw c.plan-plan.ensures (subst (λ (es : List Event). AreThere (plan_of c.args.marked.now) es) (sym c.as_slice.ensures.value)
    (shown_there (plan_of c.args.marked.now) (event_of c.first_event-from.result) (event_of c.first_event-to.result) c.in-Some.chain.items found.0 found.1))

pub returns-in-Some-clause-ok : goal.returns-in-Some-clause-ok
returns-in-Some-clause-ok c =
    let first = rw c.plan-plan.ensures at c.first_event-from.ensures in
    let second = rw c.plan-plan.ensures at c.first_event-to.ensures in
    let found = rw (c.in-Some.is, c.plan-plan.ensures) at c.in_ok-chain.ensures.shown in
    IfOk-weaker c.ordered_text.result _ _
    (λ text e. places_before (is_json c.args.telling.form) c.args.telling.places.name.now (rows_in c.args.telling.places) c.args.marked.now c.args.calls.0 c.args.calls.1
    (event_of c.first_event-from.result) (event_of c.first_event-to.result) text.items first second (map event_of c.in-Some.chain.items) found.0 found.1
    (e ∙ (λ i. chain_form (is_json c.args.telling.form) c.args.telling.places.name.now (rows_in c.args.telling.places) true c.args.marked.now
    (map event_of (c.as_slice.ensures.value i)))))
    (rw c.plan-plan.ensures at c.ordered_text.ensures.ok)

pub ordered_text-requires-in-Some-2 : goal.ordered_text-requires-in-Some-2
ordered_text-requires-in-Some-2 c =
    let found = rw (c.in-Some-2.is, c.plan-plan.ensures) at c.in_ok-chain-2.ensures.shown in
    rw c.plan-plan.ensures (subst (λ (es : List Event). AreThere (plan_of c.args.marked.now) es) (sym c.as_slice-in-Some-2.ensures.value)
    (shown_there (plan_of c.args.marked.now) (event_of c.first_event-to.result) (event_of c.first_event-from.result) c.in-Some-2.chain.items found.0 found.1))

pub returns-in-Some-2-clause-ok : goal.returns-in-Some-2-clause-ok
returns-in-Some-2-clause-ok c =
    let first = rw c.plan-plan.ensures at c.first_event-from.ensures in
    let second = rw c.plan-plan.ensures at c.first_event-to.ensures in
    let not_before = none_of _ c.in_ok-chain.field-0 c.in_default.not-Some (rw c.plan-plan.ensures at c.in_ok-chain.ensures.shown) in
    let found = rw (c.in-Some-2.is, c.plan-plan.ensures) at c.in_ok-chain-2.ensures.shown in
    IfOk-weaker c.ordered_text-in-Some-2.result _ _
    (λ text e. places_after (is_json c.args.telling.form) c.args.telling.places.name.now (rows_in c.args.telling.places) c.args.marked.now c.args.calls.0 c.args.calls.1
    (event_of c.first_event-from.result) (event_of c.first_event-to.result) text.items first second
    (map event_of c.in-Some-2.chain.items) not_before found.0 found.1
    (e ∙ (λ i. chain_form (is_json c.args.telling.form) c.args.telling.places.name.now (rows_in c.args.telling.places) false c.args.marked.now
    (map event_of (c.as_slice-in-Some-2.ensures.value i)))))
    (rw c.plan-plan.ensures at c.ordered_text-in-Some-2.ensures.ok)

pub returns-clause-ok : goal.returns-clause-ok
returns-clause-ok c =
    let first = rw c.plan-plan.ensures at c.first_event-from.ensures in
    let second = rw c.plan-plan.ensures at c.first_event-to.ensures in
    let not_before = none_of _ c.in_ok-chain.field-0 c.in_default.not-Some (rw c.plan-plan.ensures at c.in_ok-chain.ensures.shown) in
    let not_after = none_of _ c.in_ok-chain-2.field-0 c.in_default-2.not-Some (rw c.plan-plan.ensures at c.in_ok-chain-2.ensures.shown) in
    IfOk-weaker c.unordered_text.result _ _
    (λ text e. places_unordered (is_json c.args.telling.form) c.args.telling.places.name.now (rows_in c.args.telling.places) c.args.marked.now c.args.calls.0 c.args.calls.1
    (event_of c.first_event-from.result) (event_of c.first_event-to.result) text.items first second e.0 not_before not_after e.1 e.2)
    c.unordered_text.ensures.ok
