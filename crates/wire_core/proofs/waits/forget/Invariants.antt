use Rattle.std.proofs.Common.{◌≡◌, map, take, drop, ◌++◌}
use Rattle.wire_core.specs.Waiting.{after}
use Rattle.wire_core.proofs.waits.forget.Given as goal

abbrev pub invariant-loop-awaited : goal.invariant-loop-awaited
invariant-loop-awaited l = l.awaited-items ≡ map (after l.comes) (take l.awaited-index l.fn.awaited.items) ++ drop l.awaited-index l.fn.awaited.items
