use Rattle.std.proofs.lemmas.Result.{IfOk-weaker}
use Rattle.wire_portable.proofs.Whole.{portable_on}
use Rattle.wire_portable.proofs.search.lines_of.Goals as goal

pub returns : goal.returns
returns c =
    let sound = rw c.plan.ensures at c.scripts.ensures.sound in
    IfOk-weaker c.all_lines.result _ _ (λ lines fine. portable_on (record { scripts = c.args.marked.now; rows = c.args.spelling.now; sets = c.in_ok-sets.sets; anywhere = c.args.anywhere }) lines sound fine)
    c.all_lines.ensures
