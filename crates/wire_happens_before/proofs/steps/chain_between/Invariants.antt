use Rattle.std.proofs.Common.{List, map, reverse, ◌++◌}
use Rattle.wire_runs.specs.Plan.{Event, event_of, process_count}
use Rattle.wire_scripts.specs.Planned.{plan_of}
use Rattle.wire_happens_before.specs.Clocks.{LeadsTo, clock_of}
use Rattle.wire_happens_before.specs.Chain.{IsShownChain}
use Rattle.wire_happens_before.specs.Marking.{sum_to}
use Rattle.wire_happens_before.proofs.steps.chain_between.Given as goal

abbrev pub invariant-walk : goal.invariant-walk
invariant-walk l = record {
  leads : LeadsTo (plan_of l.plan) (event_of l.x) (event_of l.event);
  rest : (start : List Event) → IsShownChain (plan_of l.plan) (event_of l.x) (event_of l.event) start →
      IsShownChain (plan_of l.plan) (event_of l.x) (event_of l.fn.y) (start ++ reverse (map event_of l.chain.items));
}

abbrev pub decreases-walk : goal.decreases-walk
decreases-walk l = sum_to (process_count (plan_of l.plan)) (clock_of l.marks (event_of l.event))
