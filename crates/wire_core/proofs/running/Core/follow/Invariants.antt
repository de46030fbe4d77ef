use Rattle.std.proofs.Common.{map, take}
use Rattle.wire_core.specs.Following.{Follows}
use Rattle.wire_core.proofs.running.Core.follow.Given as goal

abbrev pub invariant-loop-step : goal.invariant-loop-step
invariant-loop-step l = Follows l.initial.self (take l.step (map (λ p. p.number) l.order)) l.self
