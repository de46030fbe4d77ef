use Rattle.std.proofs.Common.{◌≡◌, ◌++◌, drop}
use Rattle.std.specs.List.{flat_map}
use Rattle.wire_pattern_commands.specs.CheckPattern.{finding_comment}
use Rattle.wire_pattern_commands.proofs.check.push_findings.Given as goal

abbrev pub invariant-loop-finding : goal.invariant-loop-finding
invariant-loop-finding l = l.out.items ++ flat_map (finding_comment l.scripts) (drop l.finding-index l.findings) ≡ l.fn.out.items ++ flat_map (finding_comment l.scripts) l.findings
