use Rattle.wire_scripts.specs.Planned.{plan_of}
use Rattle.wire_portable.proofs.NamesFound.{call_within}
use Rattle.wire_portable.proofs.names.is_taken.Goals as goal

pub kind-requires : goal.kind-requires
kind-requires c = rw c.plan-in-loop-call.ensures (call_within (plan_of c.args.marked.now) c.args.name c.name_calls-call-items.result.now c.loop-call.call-index (record { proc = record { number = 0 }; at = 0 }) c.loop-call-test.true
    (rw c.plan.ensures at c.name_calls-call-items.ensures))
