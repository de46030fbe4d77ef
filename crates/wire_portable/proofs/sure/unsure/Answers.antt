use Rattle.std.proofs.Common.{map, subst, false}
use Rattle.wire_runs.specs.Plan.{event_of}
use Rattle.wire_runs.specs.Races.{ComesSurely}
use Rattle.wire_runs.proofs.Basics.{process_within}
use Rattle.wire_scripts.specs.Planned.{plan_of}
use Rattle.wire_portable.specs.Libraries.{family_of}
use Rattle.wire_portable.proofs.Sets.{not_all}
use Rattle.wire_portable.proofs.Had.{gets_of, its_owner, has_same, have_got}
use Rattle.wire_portable.proofs.sure.unsure.Goals as goal

pub node_of-node-requires : goal.node_of-node-requires
node_of-node-requires c = rw c.plan-plan.ensures (process_within (plan_of c.args.judge.now) c.args.get.proc.number c.args.get.at _ c.requires.get.is)

pub comes_surely-requires-clause-live : goal.comes_surely-requires-clause-live
comes_surely-requires-clause-live c = rw c.marked-marked.ensures c.requires.get.is_live

pub comes_surely-requires-clause-once : goal.comes_surely-requires-clause-once
comes_surely-requires-clause-once c = rw c.marked-marked.ensures c.requires.store.once

pub is_got-requires-clause-there : goal.is_got-requires-clause-there
is_got-requires-clause-there c = process_within (plan_of c.args.judge.now) c.args.get.proc.number c.args.get.at _ c.requires.get.is

pub is_got-requires-clause-gets : goal.is_got-requires-clause-gets
is_got-requires-clause-gets c =
    (c.args.asked.owner.number, gets_of false (plan_of c.args.judge.now) c.args.asked.owner.number (event_of c.args.get) (map event_of c.args.beside.gets.now) c.requires.gets)

pub returns-then-not-is_got : goal.returns-then-not-is_got
returns-then-not-is_got c = λ library words e h once. absurd (not_all library (has_same _ _ library c.all-all.ensures h))

pub returns-then-comes_surely : goal.returns-then-comes_surely
returns-then-comes_surely c = λ library words e h once.
    let plan = plan_of c.args.judge.now in
    let p = c.args.asked.owner.number in
    let key = c.args.asked.key in
    let g = event_of c.args.get in (
      subst (λ n. ComesSurely plan p key n g) (rw c.plan-plan.ensures at c.node_of-node.ensures) ((rw c.marked-marked.ensures at c.comes_surely.ensures).0 c.if-comes_surely.true),
      have_got plan p key g (event_of c.args.store) (its_owner plan c.args.asked.owner key c.args.store c.requires.store) c.requires.store.stores (c.requires.store.for_others once) (family_of library) words
          (map event_of c.args.beside.gets.now) c.requires.gets (c.is_got.ensures c.if-not-is_got.false),
    )

pub returns : goal.returns
returns c = λ library words e h once. absurd (not_all library (has_same _ _ library c.all-all.ensures h))
