use Rattle.std.proofs.Common.{◌≡◌, ◌∙◌, ◌==◌, Some, max, refl, sym, ap, arith}
use Rattle.wire_runs.specs.Plan.{event_of}
use Rattle.wire_clocks.specs.ClockTrees.{says}
use Rattle.wire_clocks.specs.Rising.{rising_says}
use Rattle.wire_clocks.proofs.Staying.{holds_kept}
use Rattle.wire_happens_before.specs.Clocks.{base_at, root_at, clock_over}
use Rattle.wire_happens_before.proofs.Growing.{grown_through, trees_grown}
use Rattle.wire_happens_before.proofs.Joining.{raised_not_below, joined_with_both, marked_room}
use Rattle.wire_happens_before.proofs.clocks.Clocks.raise_to.Goals as goal

pub join_base-requires-clause-root : goal.join_base-requires-clause-root
join_base-requires-clause-root c = c.requires.based.there (event_of c.args.event) c.unwrap-root.result (sym c.root.ensures ∙ c.unwrap-root.ensures)

pub raise-requires-clause-process : goal.raise-requires-clause-process
raise-requires-clause-process c = holds_kept c.args.self.now.trees c.join_base.new.self.trees c.args.event.proc.number c.in_ok-join_base.ensures.grown.trees
    (marked_room c.args.self.now (event_of c.args.event) c.requires.based c.requires.marked)

pub returns-clause-each : goal.returns-clause-each
returns-clause-each c = λ q.
    let root = c.unwrap-root.result in
    let there : root_at c.args.self.now (event_of c.args.event) ≡ Some root = sym c.root.ensures ∙ c.unwrap-root.ensures in
    let before = rising_says c.args.self.now.trees c.args.rising.now q in
    joined_with_both (q == c.args.event.proc.number) (rising_says c.raise.new.trees c.raise.new.self q) (rising_says c.join_base.new.self.trees c.join_base.new.rising q) before
    (base_at c.args.self.now root q) c.args.event.at (c.in_ok-raise.ensures.raised q) (c.in_ok-join_base.ensures.joined q)
    ∙ ap (λ o. max before (clock_over c.args.self.now (event_of c.args.event) o q)) (sym there)

pub returns-clause-last : goal.returns-clause-last
returns-clause-last c = λ q.
    let root = c.unwrap-root.result in
    let there = c.requires.based.there (event_of c.args.event) root (sym c.root.ensures ∙ c.unwrap-root.ensures) in
    let first : base_at c.join_base.new.self root q ≡ base_at c.args.self.now root q = c.in_ok-join_base.ensures.grown.trees.same root there q in
    let second : says c.raise.new.trees root q ≡ base_at c.join_base.new.self root q = c.in_ok-raise.ensures.keeps.same root (c.in_ok-join_base.ensures.grown.trees.roots root there) q in
    let joined = c.in_ok-join_base.ensures.joined q in
    let raised = raised_not_below (q == c.args.event.proc.number) (rising_says c.raise.new.trees c.raise.new.self q) (rising_says c.join_base.new.self.trees c.join_base.new.rising q) _
    (c.in_ok-raise.ensures.raised q) in
    omega (arith, first, second, joined, raised)

pub returns-clause-based : goal.returns-clause-based
returns-clause-based c = trees_grown c.join_base.new.self _ c.in_ok-join_base.ensures.based (record { roots = refl; updates = refl; trees = c.in_ok-raise.ensures.keeps })

pub returns-clause-grown : goal.returns-clause-grown
returns-clause-grown c =
    grown_through c.args.self.now c.join_base.new.self _ c.in_ok-join_base.ensures.grown (record { roots = refl; updates = refl; trees = c.in_ok-raise.ensures.keeps })

pub join_base-requires-clause-last : goal.join_base-requires-clause-last
join_base-requires-clause-last c = c.requires.last
