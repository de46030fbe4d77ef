-- The groups of findings as JSON.
use Rattle.std.proofs.Common.{◌≡◌, ◌∙◌, ap, ℕ, List}
use Rattle.wire_scripts.specs.Scripts.{Scripts}
use Rattle.wire_findings.specs.declared.finding.Finding.{Finding}
use Rattle.wire_report.specs.declared.tally.Group.{Group}
use Rattle.wire_report.specs.Grouped.{AreGroupsOf}
use Rattle.wire_commands.specs.CallsJson.{json_groups}
use Rattle.wire_commands.specs.Check.{IsGroupedJson}

-- the groups of the findings as JSON
pub as_json : (rows : List (List ℕ)) (s : Scripts) (found : List Finding) (groups shown : List Group) (text : List ℕ) →
    AreGroupsOf s found groups → text ≡ json_groups rows s found shown → shown ≡ groups →
    IsGroupedJson rows s found text
as_json rows s found groups shown text grouped tells is = record { groups = groups; grouped = grouped; tells = tells ∙ ap (json_groups rows s found) is }
