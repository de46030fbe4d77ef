use Rattle.std.proofs.Common.{◌≡◌, true}
use Rattle.wire_cutoff.proofs.Judgement.{nothing_anywhere}
use Rattle.wire_cutoff.proofs.judge.is_settled_plan.Goals as goal

pub returns-clause-ok : goal.returns-clause-ok
returns-clause-ok g c = λ e.
    let yes : c.is_empty.result ≡ true = cc in
    nothing_anywhere c.args.plan.now c.with.result c.in_ok-found.found c.is_empty.result c.settled_exactly.ensures c.with.ensures c.in_ok-found.ensures.ok c.is_empty.ensures yes
