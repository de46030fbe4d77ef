use Rattle.std.proofs.Common.{◌∙◌, ◌∷◌, [], ap, refl, sym, Some, inl, inr}
use Rattle.std.specs.Prelude.{option_map}
use Rattle.wire_runs.specs.Plan.{event_of}
use Rattle.wire_runs.proofs.Fates.{live_within}
use Rattle.wire_scripts.specs.Planned.{plan_of}
use Rattle.wire_plan.specs.Kinds.{kind_of}
use Rattle.wire_fates.proofs.Fates.{says, publish_says, lookup_says, unpublish_says, waiting_is, leave_may, stands}
use Rattle.wire_fates.proofs.fate.live_fate.Goals as goal

pub kind-requires : goal.kind-requires
kind-requires c = rw c.plan-plan.ensures (live_within (plan_of c.args.marked.now) (event_of c.args.event) c.requires.live)

pub returns-in-Put : goal.returns-in-Put
returns-in-Put c = λ fate_of past is_past got.
    let plan = plan_of c.args.marked.now in
    let y = event_of c.args.event in
    let k = kind_of c.args.marked.now.sets in
    let told = ap (λ r. r ∷ []) (sym c.bare.ensures) in
    elim c.in-Put.is [
      | inl p ↦ says plan y past (Some (k c.kind.result)) c.bare.result (rw c.plan-plan.ensures at c.kind.ensures) (rw p.2 refl) (rw p.2 told)
      | inr q ↦ elim q [
        | inl e ↦ says plan y past (Some (k c.kind.result)) c.bare.result (rw c.plan-plan.ensures at c.kind.ensures) (rw e refl) (rw e told)
        | inr l ↦ says plan y past (Some (k c.kind.result)) c.bare.result (rw c.plan-plan.ensures at c.kind.ensures)
            (rw l.1 (leave_may plan y fate_of past _ c.requires.live is_past ((rw c.plan-plan.ensures at c.kind.ensures) ∙ ap (λ v. Some (k v)) l.1))) (rw l.1 told)
      ]
    ]

pub returns-in-Publish : goal.returns-in-Publish
returns-in-Publish c = λ fate_of past is_past got.
    let plan = plan_of c.args.marked.now in
    let y = event_of c.args.event in
    let found = option_map event_of c.standing_publish.result in
    publish_says plan y past c.in-Publish.name found (stands plan y c.in-Publish.name found fate_of past c.standing_publish.ensures.standing is_past) c.publish_reply.result
    (rw c.plan-plan.ensures at c.in-Publish.ensures) c.publish_reply.ensures

pub returns-in-Lookup : goal.returns-in-Lookup
returns-in-Lookup c = λ fate_of past is_past got.
    let plan = plan_of c.args.marked.now in
    let y = event_of c.args.event in
    let found = option_map event_of c.standing_publish-in-Lookup.result in
    lookup_says plan y past c.in-Lookup.name found (stands plan y c.in-Lookup.name found fate_of past c.standing_publish-in-Lookup.ensures.standing is_past) c.lookup_reply.result
    (rw c.plan-plan.ensures at c.in-Lookup.ensures) (rw c.plan-plan.ensures at c.lookup_reply.ensures)

pub returns-in-LookupWait : goal.returns-in-LookupWait
returns-in-LookupWait c = λ fate_of past is_past got.
    let plan = plan_of c.args.marked.now in
    let y = event_of c.args.event in
    let found = option_map event_of c.standing_publish-in-LookupWait.result in
    waiting_is plan y past c.in-LookupWait.name found (stands plan y c.in-LookupWait.name found fate_of past c.standing_publish-in-LookupWait.ensures.standing is_past) c.waiting_fate.result
    (rw c.plan-plan.ensures at c.in-LookupWait.ensures) (rw c.plan-plan.ensures at c.waiting_fate.ensures)

pub returns-in-Unpublish : goal.returns-in-Unpublish
returns-in-Unpublish c = λ fate_of past is_past got.
    let plan = plan_of c.args.marked.now in
    let y = event_of c.args.event in
    let found = option_map event_of c.standing_publish-in-Unpublish.result in
    unpublish_says plan y past c.in-Unpublish.name found (stands plan y c.in-Unpublish.name found fate_of past c.standing_publish-in-Unpublish.ensures.standing is_past) c.unpublish_reply.result
    (rw c.plan-plan.ensures at c.in-Unpublish.ensures) c.unpublish_reply.ensures

pub returns-in-UnpublishAll : goal.returns-in-UnpublishAll
returns-in-UnpublishAll c = λ fate_of past is_past got.
    let plan = plan_of c.args.marked.now in
    let y = event_of c.args.event in
    let k = kind_of c.args.marked.now.sets in
    let told = ap (λ r. r ∷ []) (sym c.bare-in-UnpublishAll.ensures) in
    says plan y past (Some (k c.kind.result)) c.bare-in-UnpublishAll.result (rw c.plan-plan.ensures at c.kind.ensures) (rw c.in-UnpublishAll.is refl) (rw c.in-UnpublishAll.is told)
