use Rattle.std.proofs.Common.{◌≡◌, ◌++◌, map, drop}
use Rattle.wire_report.specs.Place.{name_byte}
use Rattle.wire_report.proofs.call_places.push_name.Given as goal

-- what is written, and the bytes that are left as they are shown, are all
abbrev pub invariant-loop-byte : goal.invariant-loop-byte
invariant-loop-byte l = l.fn.out.items ++ map name_byte l.name ≡ l.out.items ++ map name_byte (drop l.byte-index l.name)
