use Rattle.std.proofs.Common.{◌≡◌, ◌++◌, map, drop, string_bytes}
use Rattle.wire_json.specs.Json as spec
use Rattle.wire_json.proofs.strings.printable_text.Given as goal

-- what is written, and what is left of the text, is all of it
abbrev pub invariant-loop-byte : goal.invariant-loop-byte
invariant-loop-byte l = string_bytes l.string ++ map spec.printed (drop l.byte-index l.text) ≡ map spec.printed l.text
