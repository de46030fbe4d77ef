use Rattle.wire_scripts.specs.Planned.{plan_of}
use Rattle.wire_runs.specs.Plan.{event_of}
use Rattle.wire_portable.proofs.NamesFound.{never_some}
use Rattle.wire_portable.proofs.names.is_after_some.Goals as goal

pub returns-then-before : goal.returns-then-before
returns-then-before c = λ t. never_some (plan_of c.args.marked.now) c.args.stuck.now c.loop-other.other-index (record { proc = record { number = 0 }; at = 0 }) (event_of c.args.event) c.loop-other-test.true c.requires
    (c.before-in-loop-other.ensures.0 c.if-before.true)
