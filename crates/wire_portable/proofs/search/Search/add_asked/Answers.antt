use Rattle.std.proofs.Common.{◌∙◌, ap, Some}
use Rattle.std.proofs.lemmas.Result.{on_ok_weaker}
use Rattle.wire_plan.specs.Kinds.{kind_of}
use Rattle.wire_runs.specs.Plan.{event_of}
use Rattle.wire_portable.specs.Searched.{Searched}
use Rattle.wire_portable.proofs.Added.{call_told, adds_other}
use Rattle.wire_portable.proofs.search.Search.add_asked.Goals as goal

pub returns-in-Get : goal.returns-in-Get
returns-in-Get c =
    let is = rw (c.plan.ensures ∙ ap (λ (v : Searched). v.scripts) c.self.view_is) at c.kind.ensures ∙ ap (λ k. Some (kind_of c.args.self.now.scripts.sets k)) c.in-Get.is in
    on_ok_weaker c.add_read.result (λ h. call_told c.args.self.now (event_of c.args.event) _ c.args.found.now c.add_read.new.found is h) c.add_read.ensures

pub returns-in-GetNow : goal.returns-in-GetNow
returns-in-GetNow c =
    let is = rw (c.plan.ensures ∙ ap (λ (v : Searched). v.scripts) c.self.view_is) at c.kind.ensures ∙ ap (λ k. Some (kind_of c.args.self.now.scripts.sets k)) c.in-GetNow.is in
    on_ok_weaker c.add_read_now.result (λ h. call_told c.args.self.now (event_of c.args.event) _ c.args.found.now c.add_read_now.new.found is h) c.add_read_now.ensures

pub returns-in-Publish : goal.returns-in-Publish
returns-in-Publish c =
    let is = rw (c.plan.ensures ∙ ap (λ (v : Searched). v.scripts) c.self.view_is) at c.kind.ensures ∙ ap (λ k. Some (kind_of c.args.self.now.scripts.sets k)) c.in-Publish.is in
    on_ok_weaker c.add_publish.result (λ h. call_told c.args.self.now (event_of c.args.event) _ c.args.found.now c.add_publish.new.found is h) c.add_publish.ensures

pub returns-in-UnpublishAll : goal.returns-in-UnpublishAll
returns-in-UnpublishAll c =
    let is = rw (c.plan.ensures ∙ ap (λ (v : Searched). v.scripts) c.self.view_is) at c.kind.ensures ∙ ap (λ k. Some (kind_of c.args.self.now.scripts.sets k)) c.in-UnpublishAll.is in
    on_ok_weaker c.add_sweep.result (λ h. call_told c.args.self.now (event_of c.args.event) _ c.args.found.now c.add_sweep.new.found is h) c.add_sweep.ensures

pub returns-in-Fixed : goal.returns-in-Fixed
returns-in-Fixed c =
    let is = rw (c.plan.ensures ∙ ap (λ (v : Searched). v.scripts) c.self.view_is) at c.kind.ensures ∙ ap (λ k. Some (kind_of c.args.self.now.scripts.sets k)) c.in-Fixed.is in
    on_ok_weaker c.add_fixed.result (λ h. call_told c.args.self.now (event_of c.args.event) _ c.args.found.now c.add_fixed.new.found is h) c.add_fixed.ensures

pub returns-in-Unpublish : goal.returns-in-Unpublish
returns-in-Unpublish c =
    let is = rw (c.plan.ensures ∙ ap (λ (v : Searched). v.scripts) c.self.view_is) at c.kind.ensures ∙ ap (λ k. Some (kind_of c.args.self.now.scripts.sets k)) c.in-Unpublish.is in
    on_ok_weaker c.add_unpublish.result (λ h. call_told c.args.self.now (event_of c.args.event) _ c.args.found.now c.add_unpublish.new.found is
    (adds_other c.args.found.now c.add_unpublish.new.found _ _ (λ library own. own c.in-Unpublish.name is) h)) c.add_unpublish.ensures
