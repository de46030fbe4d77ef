use Rattle.wire_fence.specs.Register.{AreForgotten}
use Rattle.wire_fence.proofs.register.forget.Given as goal

abbrev pub invariant-loop-call : goal.invariant-loop-call
invariant-loop-call l = AreForgotten l.fn.counts.items l.calls l.call-index l.counts.items
