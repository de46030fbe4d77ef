use Rattle.std.proofs.Common.{[], append_assoc}
use Rattle.wire_runs.specs.Plan.{event_of}
use Rattle.wire_scripts.specs.Planned.{plan_of}
use Rattle.wire_runs.proofs.Due.{live_may}
use Rattle.wire_runs.proofs.Histories.{after_live}
use Rattle.wire_happens_before.proofs.Growing.{come_within}
use Rattle.wire_happens_before.proofs.Back.{none_lowest, some_leads, some_event, is_step_back}
use Rattle.wire_happens_before.proofs.steps.step_back.Goals as goal

pub sources-sources-requires : goal.sources-sources-requires
sources-sources-requires c = come_within (plan_of c.args.plan.now) (event_of c.args.y) (live_may (after_live c.requires.before))

pub unwrap-requires : goal.unwrap-requires
unwrap-requires c =
    let plan = plan_of c.args.plan.now in
    let first = c.lowest_of-first.ensures plan [] c.requires.marks (none_lowest plan (event_of c.args.x)) in
    let second = c.lowest_of-second.ensures plan _ c.requires.marks first in
    let all = c.lowest_among-lowest.ensures plan _ c.requires.marks second in
    some_event c.lowest_among-lowest.result (some_leads plan (event_of c.args.x) (event_of c.args.y) _ _ c.sources-sources.ensures.sources c.requires.before (rw append_assoc at all))

pub returns : goal.returns
returns c =
    let plan = plan_of c.args.plan.now in
    let first = c.lowest_of-first.ensures plan [] c.requires.marks (none_lowest plan (event_of c.args.x)) in
    let second = c.lowest_of-second.ensures plan _ c.requires.marks first in
    let all = c.lowest_among-lowest.ensures plan _ c.requires.marks second in
    is_step_back plan (event_of c.args.x) (event_of c.args.y) _ (event_of c.unwrap.result) c.sources-sources.ensures.sources (rw (append_assoc, c.unwrap.ensures) at all)
