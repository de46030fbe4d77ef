use Rattle.std.proofs.Common.{◌∙◌, sym, map, true}
use Rattle.wire_runs.specs.Plan.{event_of}
use Rattle.wire_scripts.specs.Map.{job_at}
use Rattle.wire_scripts.specs.Planned.{plan_of}
use Rattle.wire_portable.specs.Libraries.{family_of}
use Rattle.wire_portable.proofs.Sets.{not_all}
use Rattle.wire_portable.proofs.Had.{gets_of, its_owner, has_same, brings_others, surely_left, got_itself, left_itself}
use Rattle.wire_portable.proofs.own_calls.unsure_left.Goals as goal

pub is_got-requires : goal.is_got-requires
is_got-requires c =
    (c.args.asked.owner.number, gets_of true (plan_of c.args.judge.now) c.args.asked.owner.number (event_of c.args.get) (map event_of c.args.gets.now) c.requires.gets)

pub returns-then-is_got : goal.returns-then-is_got
returns-then-is_got c = λ library words e h once.
    let plan = plan_of c.args.judge.now in
    let p = c.args.asked.owner.number in
    let key = c.args.asked.key in
    let g = event_of c.args.get in
    let s = event_of c.args.store in (
      surely_left plan p key g c.requires.get c.requires.left,
      got_itself plan p key g s (its_owner plan c.args.asked.owner key c.args.store c.requires.store) c.requires.store.stores (c.requires.store.for_others once) (family_of library) words
          (map event_of c.args.gets.now) c.requires.gets (c.is_got.ensures c.if-is_got.true),
    )

pub returns-then-own-job : goal.returns-then-own-job
returns-then-own-job c = λ library words e h once.
    let plan = plan_of c.args.judge.now in
    let p = c.args.asked.owner.number in
    let key = c.args.asked.key in
    let g = event_of c.args.get in
    let here = c.scripts-scripts.ensures.scripts ∙ c.plan-plan.ensures in
    let same = sym (rw here at c.job_of-own.ensures) ∙ c.if-own-job.true ∙ (rw here at c.job_of-job.ensures) in (
      surely_left plan p key g c.requires.get c.requires.left,
      left_itself plan p key g (family_of library) words (job_at c.args.judge.now.processes) e c.requires.get (brings_others library (has_same _ _ library c.only_v5.ensures h)) same c.requires.left,
    )

pub returns : goal.returns
returns c = λ library words e h once. absurd (not_all library (has_same _ _ library c.all.ensures h))
