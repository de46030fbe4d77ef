use Rattle.wire_scripts.specs.Planned.{plan_of}
use Rattle.wire_anywhere.proofs.PlacedReplies.{settled_here}
use Rattle.wire_anywhere.proofs.differing_search.find_differing.Goals as goal

pub stuck_events-requires : goal.stuck_events-requires
stuck_events-requires c = settled_here (plan_of c.args.marked.now) c.requires

pub all_differing-requires-clause-table : goal.all_differing-requires-clause-table
all_differing-requires-clause-table c = rw c.plan.ensures at c.in_ok-table.ensures
