use Rattle.std.proofs.Common.{◌≡◌, ◌∙◌, ◌≤◌, ◌+◌, suc, subst, arith}
use Rattle.wire_runs.specs.Plan.{event_count}
use Rattle.wire_scripts.specs.Planned.{plan_of}
use Rattle.wire_portable.specs.Gets.{AreGetsTo, AreFirst}
use Rattle.wire_portable.proofs.OpenGets.{process_added}
use Rattle.wire_portable.proofs.gets.GetTable.add_process.Goals as goal

pub returns-clause-added : goal.returns-clause-added
returns-clause-added c = λ start.
    let over = c.loop-at-test.false in
    let count = rw c.plan.ensures at c.event_count-at-end.ensures in
    let last : event_count (plan_of c.args.marked.now) c.args.proc.number ≤ c.loop-at.at = omega (arith, over, count) in
    process_added c.args.self.now.together (plan_of c.args.marked.now) c.args.proc.number c.loop-at.at c.loop-at.self last (c.loop-at.invariant.0 start)

pub loop-at-preserved : goal.loop-at-preserved
loop-at-preserved c = (
  (λ start.
      let next : suc c.loop-at.at ≡ c.loop-at.at + 1 = omega arith in
      let told = subst (λ b. AreGetsTo b (plan_of c.args.marked.now) c.args.proc.number c.loop-at.at c.loop-at.self → AreGetsTo b (plan_of c.args.marked.now) c.args.proc.number (suc c.loop-at.at) c.add_event.new.self)
      c.loop-at.invariant.1 c.in_ok-add_event.ensures.added in
      subst (λ i. AreGetsTo c.args.self.now.together (plan_of c.args.marked.now) c.args.proc.number i c.add_event.new.self) next (told (c.loop-at.invariant.0 start))),
  c.in_ok-add_event.ensures.kept ∙ c.loop-at.invariant.1,
  (λ start.
      subst (λ phases. AreFirst (plan_of c.args.marked.now) phases.now c.loop-at.self → AreFirst (plan_of c.args.marked.now) phases.now c.add_event.new.self) c.loop-at.invariant.3 c.in_ok-add_event.ensures.firsts
      (c.loop-at.invariant.2 start)),
  c.in_ok-add_event.ensures.phases ∙ c.loop-at.invariant.3,
)
