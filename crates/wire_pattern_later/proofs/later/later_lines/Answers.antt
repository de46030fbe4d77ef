use Rattle.std.proofs.Common.{◌≡◌, ◌∙◌, ap, sym, subst, arith}
use Rattle.std.specs.Prelude.{IfSome}
use Rattle.wire_pattern_later.specs.Later.{AreWaitingWith}
use Rattle.wire_pattern_later.specs.Through.{first_size}
use Rattle.wire_pattern_later.proofs.Grown.{none_more, none_there}
use Rattle.wire_pattern_later.proofs.later.later_lines.Goals as goal

pub loop-ranks-init : goal.loop-ranks-init
loop-ranks-init c =
    let is = c.first_size-ranks.ensures ∙ ap first_size c.roles.ensures.roles in (omega (arith, is), λ k from lt. absurd (omega (arith, is, from, lt)))

pub loop-ranks-preserved : goal.loop-ranks-preserved
loop-ranks-preserved c =
    let p = c.args.pattern.now in
    let n = c.loop-ranks.ranks in
    let lines = c.in-Some.later.lines.items in
    let from = c.loop-ranks.invariant.0 in
    let are = subst (λ o. IfSome o (λ l. (l.ranks ≡ n) × AreWaitingWith p n l.lines.items)) c.in-Some.is c.in_ok-later.ensures.ok in (
      omega (arith, from),
      none_more p n lines are.1 (sym c.as_slice.ensures.value ∙ none_there c.as_slice.result.now (sym c.is_empty.ensures ∙ c.if-not-is_empty.false)) c.loop-ranks.invariant.1,
    )
