use Rattle.std.proofs.Common.{◌∙◌, ap, refl, sym, inl}
use Rattle.wire_runs.specs.Plan.{event_of}
use Rattle.wire_runs.specs.Step.{is_publisher}
use Rattle.wire_happens_before.proofs.Holding.{added_swept, added_cleared}
use Rattle.std.proofs.lemmas.Result.{on_ok_weaker}
use Rattle.wire_happens_before.specs.Updates.{updates_at}
use Rattle.wire_happens_before.proofs.updates.UpdateLists.unpublish_all.Goals as goal

pub returns-then-not-is_published_by-clause-each : goal.returns-then-not-is_published_by-clause-each
returns-then-not-is_published_by-clause-each c = λ n. inl refl

pub returns-then-not-is_published_by-clause-cleared : goal.returns-then-not-is_published_by-clause-cleared
returns-then-not-is_published_by-clause-cleared c =
    sym (c.is_published_by.ensures ∙ ap (is_publisher c.args.event.proc.number) c.standing.ensures) ∙ c.if-not-is_published_by.true

pub returns-clause-each : goal.returns-clause-each
returns-clause-each c =
    added_swept c.add.result c.args.self.now c.add.new.self c.args.name _ (event_of c.args.event) (c.add.ensures.here, c.add.ensures.others, c.add.ensures.err)
    (sym (c.is_published_by.ensures ∙ ap (is_publisher c.args.event.proc.number) c.standing.ensures) ∙ c.if-not-is_published_by.false) refl refl

pub returns-clause-cleared : goal.returns-clause-cleared
returns-clause-cleared c =
    on_ok_weaker c.add.result (λ here. added_cleared c.args.event.proc.number (updates_at c.args.self.now c.args.name) (updates_at c.add.new.self c.args.name) _ here refl) c.add.ensures.here
