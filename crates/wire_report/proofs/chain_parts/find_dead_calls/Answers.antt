use Rattle.std.proofs.Common.{◌≡◌, ◌∙◌, ◌++◌, ap, sym, subst}
use Rattle.wire_scripts.specs.Planned.{plan_of}
use Rattle.wire_report.specs.Chain.{AreDead}
use Rattle.wire_report.proofs.chain_parts.find_dead_calls.Goals as goal

pub returns : goal.returns
returns c =
    let e = c.in_ok-push_both_dead.ensures in
    let same : c.push_both_dead.new.out.items ≡ e.0 = e.2 ∙ ap (λ t. t ++ e.0) c.new-dead.ensures.items in
    subst (AreDead (plan_of c.args.marked.now) c.args.calls.0 c.args.calls.1) (sym same) e.1
