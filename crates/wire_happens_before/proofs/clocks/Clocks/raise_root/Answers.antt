use Rattle.std.proofs.Common.{◌≡◌, ◌∙◌, ◌+◌, ◌==◌, if◌then◌else◌, ℕ, Some, max, refl, sym, ap}
use Rattle.std.proofs.lemmas.Result.{IfOk-weaker}
use Rattle.wire_runs.specs.Plan.{event_of}
use Rattle.wire_clocks.specs.ClockTrees.{IsRoot, says}
use Rattle.wire_clocks.proofs.Staying.{clocks_stay_through, holds_kept}
use Rattle.wire_happens_before.specs.Clocks.{Clocks, base_at, root_at, clock_of, clock_over}
use Rattle.wire_happens_before.specs.Marking.{IsGrown}
use Rattle.wire_happens_before.proofs.Growing.{trees_grown}
use Rattle.wire_happens_before.proofs.Joining.{joined_with_both, marked_room}
use Rattle.wire_happens_before.proofs.clocks.Clocks.raise_root.Goals as goal

pub join-requires-clause-right : goal.join-requires-clause-right
join-requires-clause-right c = c.requires.based.there (event_of c.args.event) c.unwrap-base.result (sym c.root.ensures ∙ c.unwrap-base.ensures)

pub raise-requires-clause-process : goal.raise-requires-clause-process
raise-requires-clause-process c = holds_kept c.args.self.now.trees c.join.new.self c.args.event.proc.number c.in_ok-joined.ensures.keeps
    (marked_room c.args.self.now (event_of c.args.event) c.requires.based c.requires.marked)

pub returns-clause-based : goal.returns-clause-based
returns-clause-based c =
    let keeps = clocks_stay_through c.args.self.now.trees c.join.new.self c.raise.new.self c.in_ok-joined.ensures.keeps c.raise.ensures.keeps in
    let grown = trees_grown c.args.self.now _ c.requires.based (record { roots = refl; updates = refl; trees = keeps }) in
    IfOk-weaker c.raise.result (λ root. IsRoot c.raise.new.self root) _ (λ root there. grown) c.raise.ensures.root

pub returns-clause-grown : goal.returns-clause-grown
returns-clause-grown c =
    let keeps = clocks_stay_through c.args.self.now.trees c.join.new.self c.raise.new.self c.in_ok-joined.ensures.keeps c.raise.ensures.keeps in
    let new : Clocks = record { roots = c.args.self.now.roots; trees = c.raise.new.self; updates = c.args.self.now.updates } in
    let grown : IsGrown c.args.self.now new = record { roots = refl; updates = refl; trees = keeps } in
    IfOk-weaker c.raise.result (λ root. IsRoot c.raise.new.self root) _ (λ root there. grown) c.raise.ensures.root

pub returns-clause-each : goal.returns-clause-each
returns-clause-each c =
    let base = c.unwrap-base.result in
    let there : root_at c.args.self.now (event_of c.args.event) ≡ Some base = sym c.root.ensures ∙ c.unwrap-base.ensures in
    let p = c.args.event.proc.number in
    let between = says c.join.new.self c.in_ok-joined.joined in
    IfOk-weaker c.raise.result
    (λ root. (q : ℕ) → says c.raise.new.self root q ≡ (if q == p then max (between q) (c.args.event.at + 1) else between q))
    (λ root. (q : ℕ) → says c.raise.new.self root q ≡ max (base_at c.args.self.now c.args.root q) (clock_of c.args.self.now (event_of c.args.event) q))
    (λ root raised q.
    let before = base_at c.args.self.now c.args.root q in
    joined_with_both (q == p) (says c.raise.new.self root q) (between q) before (base_at c.args.self.now base q) c.args.event.at (raised q) (c.in_ok-joined.ensures.says q)
    ∙ ap (λ o. max before (clock_over c.args.self.now (event_of c.args.event) o q)) (sym there)) c.raise.ensures.says
