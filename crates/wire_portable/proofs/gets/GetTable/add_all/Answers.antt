use Rattle.std.proofs.Common.{◌≡◌, ◌∙◌, ◌≤◌, ◌+◌, suc, subst, arith}
use Rattle.wire_runs.specs.Plan.{process_count}
use Rattle.wire_scripts.specs.Planned.{plan_of}
use Rattle.wire_portable.specs.Gets.{AreGetsTo, AreFirst}
use Rattle.wire_portable.proofs.OpenGets.{plan_added}
use Rattle.wire_portable.proofs.gets.GetTable.add_all.Goals as goal

pub returns-clause-added : goal.returns-clause-added
returns-clause-added c = λ start.
    let over = c.loop-number-test.false in
    let count = rw c.plan.ensures at c.process_count-number-end.ensures in
    let last : process_count (plan_of c.args.marked.now) ≤ c.loop-number.number = omega (arith, over, count) in
    plan_added c.args.self.now.together (plan_of c.args.marked.now) c.loop-number.number c.loop-number.self last (c.loop-number.invariant.0 start)

pub loop-number-preserved : goal.loop-number-preserved
loop-number-preserved c = (
  (λ start.
      let next : suc c.loop-number.number ≡ c.loop-number.number + 1 = omega arith in
      let told = subst (λ b. AreGetsTo b (plan_of c.args.marked.now) c.loop-number.number 0 c.loop-number.self → AreGetsTo b (plan_of c.args.marked.now) (suc c.loop-number.number) 0 c.add_process.new.self)
      c.loop-number.invariant.1 c.in_ok-add_process.ensures.added in
      subst (λ p. AreGetsTo c.args.self.now.together (plan_of c.args.marked.now) p 0 c.add_process.new.self) next (told (c.loop-number.invariant.0 start))),
  c.in_ok-add_process.ensures.kept ∙ c.loop-number.invariant.1,
  (λ start.
      subst (λ phases. AreFirst (plan_of c.args.marked.now) phases.now c.loop-number.self → AreFirst (plan_of c.args.marked.now) phases.now c.add_process.new.self) c.loop-number.invariant.3 c.in_ok-add_process.ensures.firsts
      (c.loop-number.invariant.2 start)),
  c.in_ok-add_process.ensures.phases ∙ c.loop-number.invariant.3,
)
