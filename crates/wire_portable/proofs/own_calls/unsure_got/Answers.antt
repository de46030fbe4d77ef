use Rattle.std.proofs.Common.{map, true}
use Rattle.wire_runs.specs.Plan.{event_of}
use Rattle.wire_scripts.specs.Planned.{plan_of}
use Rattle.wire_portable.specs.Libraries.{family_of}
use Rattle.wire_portable.proofs.Sets.{not_all}
use Rattle.wire_portable.proofs.Had.{gets_of, its_owner, store_within, has_same, surely_kept, got_itself}
use Rattle.wire_portable.proofs.own_calls.unsure_got.Goals as goal

pub is_kept-requires : goal.is_kept-requires
is_kept-requires c = gets_of true (plan_of c.args.judge.now) c.args.asked.owner.number (event_of c.args.get) (map event_of c.args.gets.now) c.requires.gets

pub is_got-requires : goal.is_got-requires
is_got-requires c =
    (c.args.asked.owner.number, gets_of true (plan_of c.args.judge.now) c.args.asked.owner.number (event_of c.args.get) (map event_of c.args.gets.now) c.requires.gets)

pub returns-then-not-is_kept : goal.returns-then-not-is_kept
returns-then-not-is_kept c = λ library words e h once. absurd (not_all library (has_same _ _ library c.all-all.ensures h))

pub returns-then-not-is_got : goal.returns-then-not-is_got
returns-then-not-is_got c = λ library words e h once. absurd (not_all library (has_same _ _ library c.all-all.ensures h))

pub returns : goal.returns
returns c = λ library words e h once.
    let plan = plan_of c.args.judge.now in
    let p = c.args.asked.owner.number in
    let key = c.args.asked.key in
    let g = event_of c.args.get in
    let s = event_of c.args.store in
    let places = map event_of c.args.gets.now in
    let own = its_owner plan c.args.asked.owner key c.args.store c.requires.store in
    let are_for = c.requires.store.for_others once in (
      surely_kept plan p key g s own c.requires.store.stores are_for places (store_within plan c.args.asked.owner key c.args.store c.requires.store) c.requires.get
          (c.is_kept.ensures c.if-not-is_kept.false),
      got_itself plan p key g s own c.requires.store.stores are_for (family_of library) words places c.requires.gets (c.is_got.ensures c.if-not-is_got.false),
    )
