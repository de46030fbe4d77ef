use Rattle.std.proofs.lemmas.Result.{on_ok_weaker}
use Rattle.wire_scripts.specs.Planned.{plan_of}
use Rattle.wire_report.specs.Chain.{OfOne}
use Rattle.wire_report.proofs.Chains.{two_dead}
use Rattle.wire_report.proofs.chain_parts.push_both_dead.Goals as goal

pub returns : goal.returns
returns c =
    let first = c.in_ok-push_dead.ensures in
    on_ok_weaker c.push_dead-2.result
    (λ second. two_dead (plan_of c.args.marked.now) c.args.x c.args.y c.args.out.now.items _ c.push_dead-2.new.out.items first.0 second.0
    (λ e. cc (e, c.if-is_same.false, c.is_same.ensures.1 e)) first.1 first.2 second.1 second.2)
    c.push_dead-2.ensures

pub returns-then-is_same : goal.returns-then-is_same
returns-then-is_same c =
    let first = c.in_ok-push_dead.ensures in
    (first.0, OfOne (c.is_same.ensures.0 c.if-is_same.true) first.1, first.2)
