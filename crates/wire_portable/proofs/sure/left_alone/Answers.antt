use Rattle.wire_runs.specs.Plan.{event_of, node_of}
use Rattle.wire_scripts.specs.Map.{job_at}
use Rattle.wire_scripts.specs.Planned.{plan_of}
use Rattle.wire_portable.specs.Libraries.{family_of}
use Rattle.wire_portable.proofs.Had.{has_same, brings_others, have_left, left_surely}
use Rattle.wire_portable.proofs.sure.left_alone.Goals as goal

pub returns : goal.returns
returns c = λ library words e h.
    let plan = plan_of c.args.judge.now in
    let p = c.args.asked.owner.number in
    let key = c.args.asked.key in
    let g = event_of c.args.get in (
      left_surely plan (job_at c.args.judge.now.processes) p key (node_of plan g.proc) g c.requires,
      have_left plan p key g (family_of library) words (job_at c.args.judge.now.processes) e (brings_others library (has_same _ _ library c.only_v5.ensures h)) c.requires,
    )
