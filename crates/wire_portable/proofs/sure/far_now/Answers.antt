use Rattle.std.proofs.Common.{map, subst, false}
use Rattle.wire_runs.specs.Plan.{event_of}
use Rattle.wire_runs.proofs.Basics.{process_within}
use Rattle.wire_scripts.specs.Planned.{plan_of}
use Rattle.wire_library_laws.specs.Portable.{nothing, surely}
use Rattle.wire_portable.specs.Nows.{FencesComeLater}
use Rattle.wire_portable.proofs.Carried.{nothing_there, later_there}
use Rattle.wire_portable.proofs.Had.{gets_of}
use Rattle.wire_portable.proofs.sure.far_now.Goals as goal

pub node_of-node-requires : goal.node_of-node-requires
node_of-node-requires c = rw c.plan-plan.ensures (process_within (plan_of c.args.judge.now) c.args.get.proc.number c.args.get.at _ c.requires.get.is)

pub is_left-requires-clause-once : goal.is_left-requires-clause-once
is_left-requires-clause-once c = c.in-Some.ensures.once

pub is_brought-requires : goal.is_brought-requires
is_brought-requires c = process_within (plan_of c.args.judge.now) c.args.get.proc.number c.args.get.at _ c.requires.get.is

pub returns-then-is_left : goal.returns-then-is_left
returns-then-is_left c = λ library words e h once fits. let s = c.unsure_left.ensures library words e h once in surely s.0 s.1

pub returns-then-not-is_brought : goal.returns-then-not-is_brought
returns-then-not-is_brought c = λ library words e h once fits. let s = c.left_alone.ensures library words e h in surely s.0 s.1

pub fence_may_bring-requires-clause-once : goal.fence_may_bring-requires-clause-once
fence_may_bring-requires-clause-once c = c.in-Some.ensures.once

pub fence_may_bring-requires-clause-is : goal.fence_may_bring-requires-clause-is
fence_may_bring-requires-clause-is c = c.requires.get.is

pub gets_may_bring-requires-clause-gets : goal.gets_may_bring-requires-clause-gets
gets_may_bring-requires-clause-gets c = gets_of false (plan_of c.args.judge.now) c.args.asked.owner.number (event_of c.args.get) (map event_of c.args.beside.gets.now) c.requires.gets

pub gets_may_bring-requires-clause-store : goal.gets_may_bring-requires-clause-store
gets_may_bring-requires-clause-store c = (c.in-Some.ensures.its, c.in-Some.ensures.stores)

pub returns-in_default : goal.returns-in_default
returns-in_default c = λ library words e h once fits.
    nothing (nothing_there (plan_of c.args.judge.now) c.args.asked.owner.number c.args.asked.key (event_of c.args.get) (map event_of c.args.beside.gets.now) c.requires.far once (c.in_default.ensures once)
    c.requires.gets fits)

pub returns-then-fence_may_bring : goal.returns-then-fence_may_bring
returns-then-fence_may_bring c = λ library words e h once fits. let s = c.unsure.ensures library words e h once in surely s.0 s.1

pub returns-then-gets_may_bring : goal.returns-then-gets_may_bring
returns-then-gets_may_bring c = λ library words e h once fits. let s = c.unsure-then-gets_may_bring.ensures library words e h once in surely s.0 s.1

pub returns : goal.returns
returns c = λ library words e h once fits.
    let plan = plan_of c.args.judge.now in
    let p = c.args.asked.owner.number in
    let key = c.args.asked.key in
    let g = event_of c.args.get in
    nothing (later_there plan p key g (map event_of c.args.beside.gets.now) c.requires.far
    (subst (λ n. FencesComeLater plan p key n g) (rw c.plan-plan.ensures at c.node_of-node.ensures) (c.fence_may_bring.ensures c.if-fence_may_bring.false))
    (c.gets_may_bring.ensures c.if-gets_may_bring.false) c.requires.gets)
