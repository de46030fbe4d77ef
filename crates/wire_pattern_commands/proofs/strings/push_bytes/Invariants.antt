use Rattle.std.proofs.Common.{◌≡◌, ◌++◌, drop}
use Rattle.std.specs.Prelude.{flat_map}
use Rattle.wire_pattern_commands.specs.Strings.{text_byte}
use Rattle.wire_pattern_commands.proofs.strings.push_bytes.Given as goal

-- what is written, and what is left of the text, is all of it
abbrev pub invariant-loop-byte : goal.invariant-loop-byte
invariant-loop-byte l = l.out.items ++ flat_map text_byte (drop l.byte-index l.text) ≡ l.fn.out.items ++ flat_map text_byte l.text
