use Rattle.std.proofs.Common.{map, false}
use Rattle.wire_runs.specs.Plan.{event_of, node_of}
use Rattle.wire_runs.proofs.Basics.{process_within}
use Rattle.wire_scripts.specs.Map.{job_at}
use Rattle.wire_scripts.specs.Planned.{plan_of}
use Rattle.wire_portable.specs.Libraries.{family_of}
use Rattle.wire_portable.proofs.Had.{gets_of, its_owner, have_got, left_surely}
use Rattle.wire_portable.proofs.sure.unsure_left.Goals as goal

pub is_got-requires-clause-there : goal.is_got-requires-clause-there
is_got-requires-clause-there c = process_within (plan_of c.args.judge.now) c.args.get.proc.number c.args.get.at _ c.requires.get.is

pub is_got-requires-clause-gets : goal.is_got-requires-clause-gets
is_got-requires-clause-gets c =
    (c.args.asked.owner.number, gets_of false (plan_of c.args.judge.now) c.args.asked.owner.number (event_of c.args.get) (map event_of c.args.beside.gets.now) c.requires.gets)

pub returns-then-is_got : goal.returns-then-is_got
returns-then-is_got c = λ library words e h once.
    let plan = plan_of c.args.judge.now in
    let p = c.args.asked.owner.number in
    let key = c.args.asked.key in
    let g = event_of c.args.get in (
      left_surely plan (job_at c.args.judge.now.processes) p key (node_of plan g.proc) g c.requires.left,
      have_got plan p key g (event_of c.args.store) (its_owner plan c.args.asked.owner key c.args.store c.requires.store) c.requires.store.stores (c.requires.store.for_others once) (family_of library) words
          (map event_of c.args.beside.gets.now) c.requires.gets (c.is_got.ensures c.if-is_got.true),
    )

pub returns : goal.returns
returns c = λ library words e h once. c.left_alone.ensures library words e h
