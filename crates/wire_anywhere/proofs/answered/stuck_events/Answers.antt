use Rattle.std.proofs.Common.{◌+◌, sym, subst, map, arith}
use Rattle.wire_runs.specs.Plan.{event_of}
use Rattle.wire_scripts.specs.Planned.{plan_of}
use Rattle.wire_anywhere.specs.Answered.{AreStuckTo}
use Rattle.wire_anywhere.proofs.Coming.{no_more, one_stuck, all_stuck}
use Rattle.wire_anywhere.proofs.answered.stuck_events.Goals.{in-Some+in_ok-push, in_default}
use Rattle.wire_anywhere.proofs.answered.stuck_events.Goals as goal

pub loop-number-preserved : goal.loop-number-preserved
loop-number-preserved c =
    let plan = plan_of c.args.marked.now in
    let n = c.loop-number.number in
    let xs = c.loop-number.stuck.items in
    elim c.match-first_stuck.branch [
      | in-Some+in_ok-push w ↦
          (let f = w.in-Some.ensures in
          rw w.stuck-is (subst (λ ys. AreStuckTo plan (n + 1) (map event_of ys)) (sym w.in_ok-push.ensures.items) (one_stuck plan n xs c.loop-number.invariant w.in-Some.event f.0 f.1 f.2)))
      | in_default w ↦ rw w.stuck-is (no_more plan n xs c.loop-number.invariant w.in_default.ensures)
    ]

pub returns : goal.returns
returns c =
    let plan = plan_of c.args.marked.now in
    let end = c.loop-number-test.false in
    let count = rw c.plan.ensures at c.process_count-number-end.ensures in
    all_stuck plan c.loop-number.number (map event_of c.loop-number.stuck.items) (omega (arith, end, count)) c.loop-number.invariant
