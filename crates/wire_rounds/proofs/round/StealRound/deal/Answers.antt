use Rattle.std.proofs.Common.{◌≡◌, length, arith, subst, sym, refl, ◌∙◌}
use Rattle.wire_rounds.specs.Deques.{Made, Cutting}
use Rattle.wire_rounds.proofs.Starts.{cutting_nothing, dealt_fresh, dealt_passes}
use Rattle.wire_rounds.proofs.round.StealRound.deal.Goals as goal

pub give_permits-requires : goal.give_permits-requires
give_permits-requires c = cutting_nothing _ _ _ _ _ _ c.in_ok-passes.ensures.made

pub returns-clause-passes : goal.returns-clause-passes
returns-clause-passes c =
    let thieves = c.in_ok-passes.thieves.items in
    let passes = c.in_ok-passes.passes.items in
    let made = c.in_ok-passes.ensures.made in
    let w : c.args.workers ≡ length thieves = sym made.thieves_so_far in
    dealt_passes _ passes _ (length thieves) (subst (λ j. Made c.args.round c.args.ranks j passes thieves j) w made)
    (subst (λ j. Cutting passes c.give_permits.new.passes.items j) (made.passes_so_far ∙ w) c.in_ok-give_permits.ensures.cut) refl (omega (arith, w))

pub returns-clause-fresh : goal.returns-clause-fresh
returns-clause-fresh c = dealt_fresh _ _ _ c.in_ok-give_permits.ensures.cut refl
