-- The groups of findings, as groups of their labels.
use Rattle.std.proofs.Common.{◌≡◌, ◌∙◌, subst, Bool, List, map, Result, Ok, Err, IfOk, Vec, Global}
use Rattle.std.specs.Bool.{Decides}
use Rattle.std.specs.declared.alloc.AllocError.{AllocError}
use Rattle.wire_scripts.specs.Scripts.{Scripts}
use Rattle.wire_findings.specs.declared.finding.Finding.{Finding}
use Rattle.wire_report.specs.declared.tally.Group.{Group}
use Rattle.wire_report.specs.Groups.{AreGroups}
use Rattle.wire_report.specs.declared.label.Label.{Label}
use Rattle.wire_report.specs.Label.{label_of}
use Rattle.wire_report.specs.Grouped.{AreGroupsOf}

pub grouped : (s : Scripts) (found : List Finding) (same : Label → Label → Bool) (labels shown : List Label) (r : Result (Vec Group Global) AllocError) →
    ((x y : Label) → Decides (same x y) (x ≡ y)) → labels ≡ map (label_of s) found → shown ≡ labels → IfOk r (λ groups. AreGroups same shown groups.items) →
    IfOk r (λ groups. AreGroupsOf s found groups.items)
grouped s found same labels shown (Ok groups) tells are is told = record { same = same; tells = tells; grouped = subst (λ ls. AreGroups same ls groups.items) (is ∙ are) told }
grouped s found same labels shown (Err e) tells are is told = tt
