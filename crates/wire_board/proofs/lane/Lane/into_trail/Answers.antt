use Rattle.std.proofs.Common.{refl, sym, ap, ◌∙◌, subst, arith}
use Rattle.std.proofs.lemmas.Bool.{true≢false}
use Rattle.std.proofs.lemmas.Grind.{common_steps}
use Rattle.std.proofs.lemmas.Option.{none-some}
use Rattle.wire_scripts.specs.Planned.{plan_of}
use Rattle.wire_board.specs.Lanes.{LaneIs, AreFates}
use Rattle.wire_board.proofs.lane.Lane.into_trail.Goals as goal

pub returns-then-not-are_fates-clause-some : goal.returns-then-not-are_fates-clause-some
returns-then-not-are_fates-clause-some c =
    let same = c.as_slice.ensures.value ∙ ap (λ (l : LaneIs). l.trail) c.self.view_is in (
      (λ none. absurd (none refl)),
      (λ both. absurd (true≢false (sym (c.are_fates.ensures.1 (subst (AreFates (plan_of c.args.settled.now) c.args.rank.number) (sym same) both.fates)) ∙ c.if-not-are_fates.true))),
    )

pub returns-clause-some : goal.returns-clause-some
returns-clause-some c =
    let same = c.as_slice.ensures.value ∙ ap (λ (l : LaneIs). l.trail) c.self.view_is in (
      (λ _. record { rank_is = grind (arith, common_steps); fates = subst (AreFates (plan_of c.args.settled.now) c.args.rank.number) same (c.are_fates.ensures.0 c.if-not-are_fates.false) }),
      (λ _ none. none-some _ (sym none)),
    )
