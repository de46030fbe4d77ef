use Rattle.wire_scripts.specs.Planned.{plan_of}
use Rattle.wire_runs.specs.Plan.{event_of}
use Rattle.wire_portable.proofs.NamesFound.{never_waits}
use Rattle.wire_portable.proofs.names.is_stuck.Goals as goal

pub returns-then-live : goal.returns-then-live
returns-then-live c = λ w. never_waits (plan_of c.args.marked.now) (event_of c.args.event) c.fate_of.result c.requires.settled c.fate_of.ensures (c.waits.ensures w)
