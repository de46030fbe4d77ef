use Rattle.std.proofs.Common.{◌≡◌, ◌++◌, map, drop}
use Rattle.wire_json.specs.Json as spec
use Rattle.wire_json.proofs.parts.push_escaped.Given as goal

-- what is written, and what is left of the text, is all of it
abbrev pub invariant-loop-byte : goal.invariant-loop-byte
invariant-loop-byte l = l.fn.out.items ++ spec.escaped (map spec.printed l.text) ≡ l.out.items ++ spec.escaped (map spec.printed (drop l.byte-index l.text))
