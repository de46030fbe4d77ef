use Rattle.std.proofs.Common.{map}
use Rattle.wire_scripts.specs.Scripts.{numbers_of}
use Rattle.wire_fence.specs.Register.{IsKeyed, number_kept}
use Rattle.wire_fence.proofs.States.{StateOf}
use Rattle.wire_fence.proofs.register.Register.read_calls.Given as goal

abbrev pub invariant-loop-call : goal.invariant-loop-call
invariant-loop-call l = record {
  keyed : IsKeyed l.self;
  state : StateOf l.fn.self.rows.items l.self.rows.items (map (λ v. numbers_of v.items) l.sets) l.calls l.counts.items (map number_kept l.numbers.items) l.call-index;
}
