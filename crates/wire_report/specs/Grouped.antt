-- The groups of findings.
use Rattle.std.specs.Prelude.{◌≡◌, Bool, List, map}
use Rattle.std.specs.Bool.{Decides}
use Rattle.wire_scripts.specs.Scripts.{Scripts}
use Rattle.wire_findings.specs.declared.finding.Finding.{Finding}
use Rattle.wire_report.specs.declared.tally.Group.{Group}
use Rattle.wire_report.specs.Groups.{AreGroups}
use Rattle.wire_report.specs.declared.label.Label.{Label}
use Rattle.wire_report.specs.Label.{label_of}

-- one group for each label that a finding has, by the test that tells whether two labels are the same
pub record AreGroupsOf (s : Scripts) (found : List Finding) (groups : List Group) : Type 0 where
  pub same : Label → Label → Bool
  pub tells : (x y : Label) → Decides (same x y) (x ≡ y)
  pub grouped : AreGroups same (map (label_of s) found) groups
