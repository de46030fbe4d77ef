use Rattle.wire_portable.specs.Adding.{AddsUnportable}
use Rattle.wire_portable.proofs.Added.{AreFineBelow}
use Rattle.wire_portable.proofs.search.Search.add_all.Given as goal

abbrev pub invariant-loop-number : goal.invariant-loop-number
invariant-loop-number l = AddsUnportable l.initial.found l.found (λ library. AreFineBelow l.self library l.number)
