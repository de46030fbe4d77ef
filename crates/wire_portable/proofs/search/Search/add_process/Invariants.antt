use Rattle.wire_portable.specs.Adding.{AddsUnportable}
use Rattle.wire_portable.specs.Kept.{AreFineTo}
use Rattle.wire_portable.proofs.search.Search.add_process.Given as goal

abbrev pub invariant-loop-at : goal.invariant-loop-at
invariant-loop-at l = AddsUnportable l.initial.found l.found (λ library. AreFineTo l.self library l.proc.number l.at)
