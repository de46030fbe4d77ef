use Rattle.std.proofs.Common.{map}
use Rattle.wire_runs.specs.Plan.{event_of}
use Rattle.wire_fates.proofs.OwnArrivals.{behind_found, behind_none}
use Rattle.wire_fates.proofs.fence_deliveries.is_behind_own.Goals as goal

pub returns-in-Some : goal.returns-in-Some
returns-in-Some c = behind_found (event_of c.args.event) (event_of c.in-Some.own) (map event_of c.args.arrivals.now) c.requires c.in-Some.ensures

pub returns-in-None : goal.returns-in-None
returns-in-None c = behind_none (event_of c.args.event) (map event_of c.args.arrivals.now) c.in-None.ensures
