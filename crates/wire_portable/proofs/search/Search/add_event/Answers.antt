use Rattle.std.proofs.Common.{◌∙◌, ap, subst, inl, inr, Some, OnOk}
use Rattle.std.proofs.lemmas.Result.{on_ok_weaker}
use Rattle.wire_plan.specs.Kinds.{kind_of}
use Rattle.wire_runs.specs.Plan.{event_of}
use Rattle.wire_portable.specs.Adding.{AddsUnportable}
use Rattle.wire_portable.specs.Fences.{IsPlainArrival}
use Rattle.wire_portable.specs.Searched.{Searched}
use Rattle.wire_portable.proofs.ByKind.{put_alone, arrival_alone, call_alone, nothing_alone}
use Rattle.wire_portable.proofs.search.Search.add_event.Goals as goal

pub returns-in-Put : goal.returns-in-Put
returns-in-Put c =
    let here = rw (c.plan.ensures ∙ ap (λ (v : Searched). v.scripts) c.self.view_is) at c.kind.ensures in
    on_ok_weaker c.add_put.result (put_alone c.args.self.now (event_of c.args.event) _ (here ∙ ap (λ k. Some (kind_of c.args.self.now.scripts.sets k)) c.in-Put.is) c.args.found.now c.add_put.new.found tt (λ library. tt)) c.add_put.ensures

pub returns-in-Arrive : goal.returns-in-Arrive
returns-in-Arrive c =
    let here = rw (c.plan.ensures ∙ ap (λ (v : Searched). v.scripts) c.self.view_is) at c.kind.ensures in
    on_ok_weaker c.add_fence.result (arrival_alone c.args.self.now (event_of c.args.event) _ (here ∙ ap (λ k. Some (kind_of c.args.self.now.scripts.sets k)) c.in-Arrive.is) c.args.found.now c.add_fence.new.found tt (λ library. tt))
    (subst (λ (v : Searched). OnOk c.add_fence.result (AddsUnportable c.args.found.now c.add_fence.new.found (λ library. IsPlainArrival library v.scripts v.rows v.sets (event_of c.args.event)))) c.self.view_is c.add_fence.ensures)

pub returns-in-Get : goal.returns-in-Get
returns-in-Get c =
    let here = rw (c.plan.ensures ∙ ap (λ (v : Searched). v.scripts) c.self.view_is) at c.kind.ensures in
    elim c.in-Get.is [
      | inl e ↦ on_ok_weaker c.add_call.result (call_alone c.args.self.now (event_of c.args.event) _ (here ∙ ap (λ k. Some (kind_of c.args.self.now.scripts.sets k)) e.2) c.args.found.now c.add_call.new.found tt tt) c.add_call.ensures
      | inr more ↦ elim more [
        | inl e ↦ on_ok_weaker c.add_call.result (call_alone c.args.self.now (event_of c.args.event) _ (here ∙ ap (λ k. Some (kind_of c.args.self.now.scripts.sets k)) e.2) c.args.found.now c.add_call.new.found tt tt) c.add_call.ensures
        | inr more ↦ elim more [
          | inl e ↦ on_ok_weaker c.add_call.result (call_alone c.args.self.now (event_of c.args.event) _ (here ∙ ap (λ k. Some (kind_of c.args.self.now.scripts.sets k)) e.1) c.args.found.now c.add_call.new.found tt tt) c.add_call.ensures
          | inr more ↦ elim more [
            | inl e ↦ on_ok_weaker c.add_call.result (call_alone c.args.self.now (event_of c.args.event) _ (here ∙ ap (λ k. Some (kind_of c.args.self.now.scripts.sets k)) e.1) c.args.found.now c.add_call.new.found tt tt) c.add_call.ensures
            | inr more ↦ elim more [
              | inl e ↦ on_ok_weaker c.add_call.result (call_alone c.args.self.now (event_of c.args.event) _ (here ∙ ap (λ k. Some (kind_of c.args.self.now.scripts.sets k)) e.1) c.args.found.now c.add_call.new.found tt tt) c.add_call.ensures
              | inr e ↦ on_ok_weaker c.add_call.result (call_alone c.args.self.now (event_of c.args.event) _ (here ∙ ap (λ k. Some (kind_of c.args.self.now.scripts.sets k)) e) c.args.found.now c.add_call.new.found tt tt) c.add_call.ensures
            ]
          ]
        ]
      ]
    ]

pub returns-in-Commit : goal.returns-in-Commit
returns-in-Commit c =
    let here = rw (c.plan.ensures ∙ ap (λ (v : Searched). v.scripts) c.self.view_is) at c.kind.ensures in
    elim c.in-Commit.is [
      | inl e ↦ nothing_alone c.args.self.now (event_of c.args.event) _ (here ∙ ap (λ k. Some (kind_of c.args.self.now.scripts.sets k)) e) c.args.found.now c.args.found.now tt tt (λ library. tt)
      | inr e ↦ nothing_alone c.args.self.now (event_of c.args.event) _ (here ∙ ap (λ k. Some (kind_of c.args.self.now.scripts.sets k)) e.1) c.args.found.now c.args.found.now tt tt (λ library. tt)
    ]

pub returns-in-Lookup : goal.returns-in-Lookup
returns-in-Lookup c =
    let here = rw (c.plan.ensures ∙ ap (λ (v : Searched). v.scripts) c.self.view_is) at c.kind.ensures in
    elim c.in-Lookup.is [
      | inl e ↦ nothing_alone c.args.self.now (event_of c.args.event) _ (here ∙ ap (λ k. Some (kind_of c.args.self.now.scripts.sets k)) e.1) c.args.found.now c.args.found.now tt tt (λ library. tt)
      | inr e ↦ nothing_alone c.args.self.now (event_of c.args.event) _ (here ∙ ap (λ k. Some (kind_of c.args.self.now.scripts.sets k)) e.1) c.args.found.now c.args.found.now tt tt (λ library. tt)
    ]
