use Rattle.std.proofs.Common.{◌≡◌, ◌++◌, map, drop}
use Rattle.wire_types.specs.Texts.{lists_of}
use Rattle.wire_pattern_commands.specs.PatternJson.{finding_string}
use Rattle.wire_pattern_commands.proofs.verdict_json.finding_strings.Given as goal

-- the strings that are made, and those of the findings that are left, are all of them
abbrev pub invariant-loop-finding : goal.invariant-loop-finding
invariant-loop-finding l =
    lists_of l.strings.items ++ map (finding_string l.scripts) (drop l.finding-index l.findings) ≡ map (finding_string l.scripts) l.findings
