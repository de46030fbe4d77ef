use Rattle.std.proofs.Common.{◌≡◌, ◌++◌, map, drop}
use Rattle.wire_types.specs.Texts.{lists_of}
use Rattle.wire_report.specs.Findings.{finding_words}
use Rattle.wire_report.proofs.findings.finding_lines.Given as goal

-- the words that are made, and those of the findings that are left, are all words
abbrev pub invariant-loop-finding : goal.invariant-loop-finding
invariant-loop-finding l = lists_of l.lines.items ++ map (finding_words l.scripts) (drop l.finding-index l.findings) ≡ map (finding_words l.scripts) l.findings
