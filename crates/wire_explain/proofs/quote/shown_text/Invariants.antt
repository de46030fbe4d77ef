use Rattle.std.proofs.Common.{◌≡◌, take, map}
use Rattle.wire_explain.specs.Quote.{shown_byte}
use Rattle.wire_explain.proofs.quote.shown_text.Given as goal

abbrev pub invariant-loop-byte : goal.invariant-loop-byte
invariant-loop-byte l = l.shown.items ≡ map shown_byte (take l.byte-index l.text)
