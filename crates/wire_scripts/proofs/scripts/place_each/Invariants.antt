use Rattle.std.proofs.Common.{◌≡◌, ◌++◌, false, if◌then◌else◌, take, drop, slice_index_or}
use Rattle.wire_scripts.specs.Placed.{moved_from}
use Rattle.wire_scripts.proofs.scripts.place_each.Given as goal

abbrev pub invariant-loop-number : goal.invariant-loop-number
invariant-loop-number l =
    l.processes.items ≡ moved_from 0 (λ p. if slice_index_or l.named p false then 1 else 0) (take l.number l.fn.processes.items) ++ drop l.number l.fn.processes.items
