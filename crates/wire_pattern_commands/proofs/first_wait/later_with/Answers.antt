use Rattle.std.proofs.Common.{subst}
use Rattle.std.specs.Prelude.{MatchOption}
use Rattle.wire_pattern_later.specs.Later.{IsInstanceWith, IsUnreadWith}
use Rattle.wire_pattern_commands.proofs.FirstWaits.{later_planned}
use Rattle.wire_pattern_commands.proofs.first_wait.later_with.Goals as goal

pub returns-in_ok-found-in-Some-clause-ok : goal.returns-in_ok-found-in-Some-clause-ok
returns-in_ok-found-in-Some-clause-ok c =
    let p = c.args.pattern.now in
    let ranks = c.args.ranks in
    later_planned p ranks c.in-Some.instance c.in_ok-found-in-Some.found
    (subst (λ o. MatchOption o (IsUnreadWith p ranks) (λ it. IsInstanceWith p ranks it.sizes.items it.text.items it.scripts)) c.in-Some.is c.in_ok-instance.ensures.ok)
    c.in_ok-found-in-Some.ensures.ok
