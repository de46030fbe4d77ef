use Rattle.std.proofs.Common.{◌≡◌, ◌++◌, take}
use Rattle.wire_findings.specs.Packing.{all_told_by}
use Rattle.wire_findings.proofs.found.FindingsBuilder.push_all.Given as goal

abbrev pub invariant-loop-entry : goal.invariant-loop-entry
invariant-loop-entry l = l.self ≡ l.initial.self ++ all_told_by l.subjects (take l.entry-index l.entries)
