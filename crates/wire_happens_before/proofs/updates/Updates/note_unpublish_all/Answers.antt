use Rattle.std.proofs.Common.{subst, ℕ}
use Rattle.wire_runs.specs.Plan.{event_of}
use Rattle.wire_happens_before.specs.Updates.{updates_at, TakesAway}
use Rattle.wire_happens_before.proofs.Holding.{swept_held, held_cleared, all_cleared}
use Rattle.wire_happens_before.proofs.updates.Updates.note_unpublish_all.Goals as goal

pub invariant_of-self : goal.invariant_of-self
invariant_of-self c = swept_held c.self.inside.lists c.unpublish_all_names.new.self c.self.inside.held (event_of c.args.event) c.unpublish_all_names.ensures.each c.self.invariant

pub invariant_of-self-2 : goal.invariant_of-self-2
invariant_of-self-2 c =
    let z = event_of c.args.event in
    let still = swept_held c.self.inside.lists c.unpublish_all_names.new.self c.self.inside.held z c.unpublish_all_names.ensures.each c.self.invariant in
    let cleared = all_cleared c.self.inside.lists c.unpublish_all_names.new.self c.self.inside.held z c.unpublish_all_names.ensures.each (rw c.list.ensures at c.in_ok-unpublish_all_names.ensures.cleared) c.self.invariant in
    held_cleared c.unpublish_all_names.new.self c.self.inside.held c.clear.new.self c.args.event.proc.number cleared c.clear.ensures still

pub returns-clause-cleared : goal.returns-clause-cleared
returns-clause-cleared c =
    all_cleared c.self.inside.lists c.unpublish_all_names.new.self c.self.inside.held (event_of c.args.event) c.unpublish_all_names.ensures.each (rw c.list.ensures at c.in_ok-unpublish_all_names.ensures.cleared) c.self.invariant

pub returns-in_err-unpublish_all_names-clause-each : goal.returns-in_err-unpublish_all_names-clause-each
returns-in_err-unpublish_all_names-clause-each c =
    subst (λ l. (n : ℕ) → TakesAway (event_of c.args.event) (updates_at l n) (updates_at c.unpublish_all_names.new.self n)) c.self.view_is c.unpublish_all_names.ensures.each

pub returns-clause-each : goal.returns-clause-each
returns-clause-each c =
    subst (λ l. (n : ℕ) → TakesAway (event_of c.args.event) (updates_at l n) (updates_at c.unpublish_all_names.new.self n)) c.self.view_is c.unpublish_all_names.ensures.each
