use Rattle.std.proofs.Common.{◌≡◌, ◌∙◌, ◌≤◌, ◌+◌, ◌∷◌, [], length, sym, ap, subst, arith, length-append}
use Rattle.wire_types.specs.declared.Proc.{Proc}
use Rattle.wire_runs.specs.Plan.{process_count}
use Rattle.wire_scripts.specs.Planned.{plan_of}
use Rattle.wire_core.specs.Course.{plan_in, state_of}
use Rattle.wire_standstill.specs.Standstill.{AreWaitedBy}
use Rattle.wire_standstill.proofs.Awaited.{table_more, table_whole}
use Rattle.wire_standstill.proofs.whom.waits_of.Goals as goal

pub loop-number-preserved : goal.loop-number-preserved
loop-number-preserved c =
    let list = c.in_ok-ranks_awaited.field-0 in
    let n = c.loop-number.number in
    let pushed = c.in_ok-push.ensures.items in
    let count : length c.push.new.self.items ≡ n + 1 = ap length pushed ∙ length-append c.loop-number.waits.items (list ∷ []) ∙ ap (λ k. k + 1) c.loop-number.invariant.count in
    let one : AreWaitedBy (plan_in c.args.core.now) (state_of c.args.core.now) n list.items =
    subst (λ (rank : Proc). AreWaitedBy (plan_in c.args.core.now) (state_of c.args.core.now) rank.number list.items) c.new.ensures c.in_ok-ranks_awaited.ensures in
    record {
      count = count;
      each = table_more (plan_in c.args.core.now) (state_of c.args.core.now) c.loop-number.waits.items c.push.new.self.items list n c.loop-number.invariant.count c.loop-number.invariant.each one pushed;
    }

pub returns-clause-waits : goal.returns-clause-waits
returns-clause-waits c =
    let count = c.process_count-number-end.ensures ∙ ap (λ s. process_count (plan_of s)) c.plan.ensures in
    table_whole (plan_in c.args.core.now) (state_of c.args.core.now) c.loop-number.waits.items c.loop-number.number c.loop-number.invariant.count
    (omega (arith, count, c.loop-number-test.false)) c.loop-number.invariant.each
