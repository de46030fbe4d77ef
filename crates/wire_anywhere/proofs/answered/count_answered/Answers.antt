use Rattle.std.proofs.Common.{arith}
use Rattle.wire_scripts.specs.Planned.{plan_of}
use Rattle.wire_anywhere.proofs.Coming.{end_within}
use Rattle.wire_anywhere.proofs.answered.count_answered.Goals as goal

pub bisection-init : goal.bisection-init
bisection-init c =
    let most = end_within (plan_of c.args.marked.now) c.requires.settled c.args.proc.number in
    let count = rw c.plan.ensures at c.event_count-high.ensures in
    (omega arith, omega (arith, most, count))
