use Rattle.std.proofs.Common.{◌∙◌, ap, refl, subst}
use Rattle.std.specs.Prelude.{OnOk}
use Rattle.wire_runs.specs.Plan.{event_of}
use Rattle.wire_happens_before.specs.Updates.{updates_at, standing_in, after_publish, IsAppended, names_at}
use Rattle.wire_happens_before.proofs.Holding.{held_same, held_more, publish_kept, appended, among_last}
use Rattle.wire_happens_before.proofs.updates.Updates.note_publish.Goals as goal

pub invariant_of-self : goal.invariant_of-self
invariant_of-self c = held_same c.self.inside.lists c.self.inside.held c.add.new.self c.in_err-add.ensures.err c.self.invariant

pub invariant_of-self-2 : goal.invariant_of-self-2
invariant_of-self-2 c =
    let more = held_more c.self.inside.lists c.self.inside.held c.add.new.self c.args.event.proc.number c.args.name c.in_ok-add.ensures.here c.in_ok-add.ensures.others c.self.invariant in
    publish_kept c.add-2.result c.self.inside.lists c.add-2.new.self c.add.new.self c.args.name _ (event_of c.args.event) (c.add-2.ensures.here, c.add-2.ensures.others, c.add-2.ensures.err)
    (c.after_publish-standing.ensures ∙ ap (after_publish (event_of c.args.event)) c.standing.ensures)
    (among_last c.args.name (names_at c.self.inside.held c.args.event.proc.number) (names_at c.add.new.self c.args.event.proc.number) c.in_ok-add.ensures.here) more

pub returns : goal.returns
returns c =
    subst (λ l. OnOk c.add-2.result (IsAppended (event_of c.args.event) c.args.name (after_publish (event_of c.args.event) (standing_in (updates_at l c.args.name))) l c.add-2.new.self)) c.self.view_is
    (appended c.add-2.result c.self.inside.lists c.add-2.new.self c.args.name _ (event_of c.args.event) _ (c.add-2.ensures.here, c.add-2.ensures.others, c.add-2.ensures.err) refl
    (c.after_publish-standing.ensures ∙ ap (after_publish (event_of c.args.event)) c.standing.ensures))
