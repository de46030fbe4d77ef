use Rattle.wire_runs.specs.Plan.{event_of}
use Rattle.wire_scripts.specs.Planned.{plan_of}
use Rattle.wire_portable.proofs.NowsAdded.{live_now, now_added}
use Rattle.wire_portable.proofs.search.Search.add_now.Goals as goal

pub add_near_now-requires-clause-now : goal.add_near_now-requires-clause-now
add_near_now-requires-clause-now c =
    live_now (plan_of c.args.self.now.scripts) c.args.asked.owner.number c.args.asked.key (event_of c.args.get) c.requires.is c.requires.other c.requires.asked

pub add_far_now-requires-clause-now : goal.add_far_now-requires-clause-now
add_far_now-requires-clause-now c =
    live_now (plan_of c.args.self.now.scripts) c.args.asked.owner.number c.args.asked.key (event_of c.args.get) c.requires.is c.requires.other c.requires.asked

pub returns : goal.returns
returns c =
    now_added c.args.self.now c.args.asked.owner.number c.args.asked.key (event_of c.args.get) c.args.found.now c.add_near_now.new.found c.add_far_now.new.found c.in_ok-add_near_now.ensures
    c.in_ok-add_far_now.ensures
