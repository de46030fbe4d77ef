use Rattle.std.proofs.Common.{subst, arith}
use Rattle.wire_happens_before.proofs.Growing.{come_within, left_falls, left_same, next_there}
use Rattle.wire_happens_before.proofs.Joining.{growing_added}
use Rattle.wire_happens_before.specs.Marking.{next_of, Notes}
use Rattle.wire_happens_before.specs.Meeting.{plan_in}
use Rattle.wire_happens_before.proofs.grow.mark_next.Goals as goal

pub returns-clause-growing : goal.returns-clause-growing
returns-clause-growing c =
    let next = rw c.in-Some.is at c.in_ok-root.ensures.next in
    let growth = c.next_base.new.growth in
    let plan = plan_in growth in
    let p = c.args.proc.number in
    let added = growing_added plan growth.fences.now growth.clocks c.mark.new.self growth.meetings.items p c.in-Some.root
    (next_there plan growth.clocks p c.in-Some.root next) c.in_ok-root.ensures.growing.marked c.in_ok-root.ensures.growing.kept next c.in_ok-mark.ensures.adds
    (subst (λ i. Notes plan (record { proc = p; at = i }) growth.clocks c.mark.new.self) c.marked-at.ensures c.in_ok-mark.ensures.notes) in
    record { fences = c.in_ok-root.ensures.growing.fences; marked = added.0; kept = added.1 }

pub returns-clause-falls : goal.returns-clause-falls
returns-clause-falls c =
    let next = rw c.in-Some.is at c.in_ok-root.ensures.next in
    let growth = c.next_base.new.growth in
    let plan = plan_in growth in
    let p = c.args.proc.number in
    let less = left_falls plan growth.clocks c.mark.new.self p c.in-Some.root (next_there plan growth.clocks p c.in-Some.root next) c.in_ok-root.ensures.growing.marked next
    c.in_ok-mark.ensures.adds in
    let same = left_same c.args.growth.now.plan.now growth.plan.now c.args.growth.now.clocks growth.clocks c.next_base.ensures.plan c.in_ok-root.ensures.same in
    omega (arith, less, same)

pub mark-requires : goal.mark-requires
mark-requires c =
    let next = rw c.in-Some.is at c.in_ok-root.ensures.next in
    let growth = c.next_base.new.growth in
    let there = next_there (plan_in growth) growth.clocks c.args.proc.number c.in-Some.root next in
    let processes = c.in_ok-root.ensures.growing.marked.processes in
    let within = come_within (plan_in growth) (next_of growth.clocks c.args.proc.number) next.ready.comes in
    let at = c.marked-at.ensures in
    record { process = omega (arith, there, processes); there = omega (arith, within, at) }

pub returns-in_default-clause-stuck : goal.returns-in_default-clause-stuck
returns-in_default-clause-stuck c = rw c.in_default.is at c.in_ok-root.ensures.next

pub returns-clause-plan : goal.returns-clause-plan
returns-clause-plan c = c.next_base.ensures.plan
