use Rattle.std.proofs.Common.{◌≡◌, ap, Ok, subst}
use Rattle.std.specs.Prelude.{IfSome}
use Rattle.wire_instances.specs.Views.{cast_by}
use Rattle.wire_pattern_later.specs.Later.{grown}
use Rattle.wire_pattern_later.proofs.Grown.{instance_told}
use Rattle.wire_pattern_later.proofs.later.instance_with.Goals as goal

pub returns-clause-ok : goal.returns-clause-ok
returns-clause-ok c =
    let p = c.args.pattern.now in
    let n = c.args.ranks in
    instance_told p n (cast_by c.in-Some.cast) c.in_ok-found.found (subst (λ o. IfSome o (λ it. cast_by it ≡ grown p n)) c.in-Some.is c.in_ok-cast.ensures.is)
    c.in_ok-found.ensures.sizes c.in_ok-found.ensures.text c.in_ok-found.ensures.reads (λ e. c.in_ok-found.ensures.none (ap Ok e))
