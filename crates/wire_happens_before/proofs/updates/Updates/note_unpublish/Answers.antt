use Rattle.std.proofs.Common.{◌∙◌, ap, refl, subst}
use Rattle.std.specs.Prelude.{OnOk}
use Rattle.wire_runs.specs.Plan.{event_of}
use Rattle.wire_happens_before.specs.Updates.{updates_at, standing_in, after_unpublish, IsAppended}
use Rattle.wire_happens_before.proofs.Holding.{unpublish_kept, appended}
use Rattle.wire_happens_before.proofs.updates.Updates.note_unpublish.Goals as goal

pub invariant_of-self : goal.invariant_of-self
invariant_of-self c =
    unpublish_kept c.add.result c.self.inside.lists c.add.new.self c.self.inside.held c.args.name _ c.args.event.proc.number (c.add.ensures.here, c.add.ensures.others, c.add.ensures.err)
    (c.after_unpublish-standing.ensures ∙ ap (after_unpublish c.args.event.proc.number) c.standing.ensures) c.self.invariant

pub returns : goal.returns
returns c =
    subst (λ l. OnOk c.add.result (IsAppended (event_of c.args.event) c.args.name (after_unpublish c.args.event.proc.number (standing_in (updates_at l c.args.name))) l c.add.new.self)) c.self.view_is
    (appended c.add.result c.self.inside.lists c.add.new.self c.args.name _ (event_of c.args.event) _ (c.add.ensures.here, c.add.ensures.others, c.add.ensures.err) refl
    (c.after_unpublish-standing.ensures ∙ ap (after_unpublish c.args.event.proc.number) c.standing.ensures))
