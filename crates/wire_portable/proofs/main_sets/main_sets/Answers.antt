use Rattle.std.proofs.Common.{◌+◌, sym, subst, arith}
use Rattle.wire_portable.proofs.PhaseRows.{AreMembersTo, no_members, member_added}
use Rattle.wire_portable.proofs.main_sets.main_sets.Goals as goal

pub loop-number-init : goal.loop-number-init
loop-number-init c = subst (AreMembersTo c.args.plan.now 0) (sym c.new-sets.ensures.items) (no_members c.args.plan.now)

pub loop-number-preserved : goal.loop-number-preserved
loop-number-preserved c =
    let n = c.loop-number.number in
    subst (AreMembersTo c.args.plan.now (n + 1)) (sym c.in_ok-push.ensures.items)
    (member_added c.args.plan.now c.loop-number.sets.items n (n + 1) c.own_set.result (omega arith) c.own_set.ensures c.loop-number.invariant)

pub returns : goal.returns
returns c = c.loop-number.invariant.members
