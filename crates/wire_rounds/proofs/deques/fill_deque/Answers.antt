use Rattle.std.proofs.Common.{◌≡◌, List, [], ◌∷◌, ◌++◌, ap, sym, subst, arith, ◌∙◌}
use Rattle.wire_rounds.specs.declared.rule.Piece.{Piece}
use Rattle.wire_rounds.specs.declared.rule.DequeView.{DequeView}
use Rattle.wire_rounds.specs.Views.{deque_view, all_parts}
use Rattle.wire_rounds.specs.Rules.{Puts}
use Rattle.wire_rounds.specs.Deques.{IsFilled}
use Rattle.wire_rounds.proofs.Deals.{begins, deals}
use Rattle.wire_rounds.proofs.Turns.{turns_begin, turns_on}
use Rattle.wire_rounds.proofs.deques.fill_deque.Goals as goal

pub fifo_as-requires : goal.fifo_as-requires
fifo_as-requires c = begins

pub turns-init : goal.turns-init
turns-init c =
    let start = turns_begin c.args.worker c.args.workers c.args.round c.args.ranks c.requires in
    let made = c.in_ok-own.ensures in
    (subst (λ xs. IsFilled xs c.in_ok-own.own) (sym start.0) (made.1, made.4), start.1)

pub push_as-requires-clause-pushes : goal.push_as-requires-clause-pushes
push_as-requires-clause-pushes c = deals _ _ _ (ap (λ v. v.parts) c.turns.invariant.0.1)

one_more : (v w : DequeView) (dealt : List Piece) (x y : Piece) → Puts v (x ∷ []) w → x ≡ y → v ≡ deque_view all_parts 0 dealt [] → w ≡ deque_view all_parts 0 (dealt ++ y ∷ []) []
one_more v w dealt x y puts same before = puts ∙ ap (λ (z : Piece). deque_view v.parts v.below (v.dealt ++ z ∷ []) v.taken) same
    ∙ ap (λ (u : DequeView). deque_view u.parts u.below (u.dealt ++ y ∷ []) u.taken) before

pub turns-preserved : goal.turns-preserved
turns-preserved c =
    let next = turns_on c.args.worker c.args.workers c.args.round c.args.ranks c.turns.next c.saturating_add-next.result 18446744073709551615 c.requires c.turns-test.true c.saturating_add-next.ensures
    (omega (arith, c.ranges.ranks.fits)) c.turns.invariant.1 in
    let puts = c.in-Ok.ensures in
    let same : Piece = record { rank = c.new.result; round = c.args.round } in (
      subst (λ xs. IsFilled xs c.push_as.new.self) (sym next.0) (
        puts.same.1 ∙ c.turns.invariant.0.0,
        one_more _ _ _ same _ puts.rule.0 (λ i. record { rank = c.new.ensures i; round = c.args.round }) c.turns.invariant.0.1,
      ),
      next.1,
    )
