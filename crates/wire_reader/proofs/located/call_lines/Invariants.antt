use Rattle.std.proofs.Common.{◌≡◌, map, take}
use Rattle.wire_reader.specs.Drafted.{placed_of}
use Rattle.wire_reader.proofs.located.call_lines.Given as goal

abbrev pub invariant-loop-placed : goal.invariant-loop-placed
invariant-loop-placed l = l.lines.items ≡ map (λ c. c.0) (map placed_of (take l.placed-index l.process.calls.items))
