use Rattle.std.proofs.Common.{◌≡◌, ◌++◌, drop}
use Rattle.std.specs.List.{flat_map}
use Rattle.wire_report.specs.Findings.{finding_line}
use Rattle.wire_report.proofs.findings.push_findings.Given as goal

-- what is written, and the lines of the findings that are left, are all lines
abbrev pub invariant-loop-finding : goal.invariant-loop-finding
invariant-loop-finding l = l.fn.out.items ++ flat_map (finding_line l.scripts) l.findings ≡ l.out.items ++ flat_map (finding_line l.scripts) (drop l.finding-index l.findings)
