use Rattle.std.proofs.Common.{◌≡◌, ◌++◌, take}
use Rattle.wire_anywhere.proofs.placed.PlacedList.push_all.Given as goal

abbrev pub invariant-loop-finding : goal.invariant-loop-finding
invariant-loop-finding l = l.self ≡ l.initial.self ++ take l.finding-index l.findings
