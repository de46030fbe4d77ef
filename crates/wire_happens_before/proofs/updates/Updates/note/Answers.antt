use Rattle.std.proofs.Common.{◌∙◌, ap, Some}
use Rattle.std.proofs.lemmas.Result.{on_ok_weaker}
use Rattle.wire_runs.specs.Plan.{event_of}
use Rattle.wire_scripts.specs.Planned.{plan_of}
use Rattle.wire_plan.specs.Kinds.{kind_of}
use Rattle.wire_happens_before.specs.Updates.{updates_at}
use Rattle.wire_happens_before.proofs.Noting.{publish_noted, unpublish_noted, swept_noted, nothing_noted, stays}
use Rattle.wire_happens_before.proofs.updates.Updates.note.Goals as goal

pub returns-in-Publish : goal.returns-in-Publish
returns-in-Publish c =
    let is = c.kind.ensures ∙ ap (λ k. Some (kind_of c.args.plan.now.sets k)) c.in-Publish.is in
    on_ok_weaker c.note_publish.result (λ a. publish_noted (plan_of c.args.plan.now) (event_of c.args.event) c.in-Publish.name
    (updates_at c.args.self.now) (updates_at c.note_publish.new.self) a.update
    a.it a.list a.others is a.left) c.note_publish.ensures

pub returns-in-Unpublish : goal.returns-in-Unpublish
returns-in-Unpublish c =
    let is = c.kind.ensures ∙ ap (λ k. Some (kind_of c.args.plan.now.sets k)) c.in-Unpublish.is in
    on_ok_weaker c.note_unpublish.result (λ a. unpublish_noted (plan_of c.args.plan.now) (event_of c.args.event) c.in-Unpublish.name (updates_at c.args.self.now) (updates_at c.note_unpublish.new.self)
    a.update a.it a.list a.others is a.left) c.note_unpublish.ensures

pub returns-in-UnpublishAll : goal.returns-in-UnpublishAll
returns-in-UnpublishAll c =
    let is = c.kind.ensures ∙ ap (λ k. Some (kind_of c.args.plan.now.sets k)) c.in-UnpublishAll.is in
    on_ok_weaker c.note_unpublish_all.result (λ cleared. swept_noted (plan_of c.args.plan.now) (event_of c.args.event)
    (updates_at c.args.self.now) (updates_at c.note_unpublish_all.new.self) is c.note_unpublish_all.ensures.each
    cleared) c.note_unpublish_all.ensures.cleared

pub returns-in_default : goal.returns-in_default
returns-in_default c =
    nothing_noted (plan_of c.args.plan.now) (event_of c.args.event) (updates_at c.args.self.now)
    (stays (plan_of c.args.plan.now) (event_of c.args.event) c.args.plan.now.sets c.kind.result c.kind.ensures c.in_default.not-Publish c.in_default.not-Unpublish c.in_default.not-UnpublishAll)
