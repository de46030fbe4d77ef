use Rattle.std.proofs.Common.{◌≤◌, map, sym, arith}
use Rattle.wire_runs.specs.Plan.{process_count}
use Rattle.wire_scripts.specs.Planned.{plan_of}
use Rattle.wire_runs.specs.Step.{run}
use Rattle.wire_core.specs.Keeping.{count_in}
use Rattle.wire_core.proofs.Ranks.{now_past}
use Rattle.wire_core.proofs.running.Core.see_key_now.Goals as goal

pub returns-then-index-len : goal.returns-then-index-len
returns-then-index-len c =
    let plan = plan_of c.self.inside.plan.now in
    let w = map (λ p. p.number) c.self.inside.history.items in
    let count = c.self.invariant.course.told.count in
    let index = c.index.ensures in
    let len = c.len.ensures in
    let items = c.self.inside.ranks.ok.0 in
    let over = c.if-index-len.true in
    let past : process_count plan ≤ c.args.owner.number = omega (arith, count, index, len, items, over) in
    let p = c.args.owner.number in
    let key = c.args.key in
    rw (← c.self.view_is) (now_past plan w c.args.reader.number ((run plan w).done c.args.reader.number) p key (λ node. count_in c.self.inside.keeping p key node)
    (λ node away. c.self.invariant.keeping_is.told p key node away) c.self.invariant.course.legal past (sym c.if-eq.ensures))
