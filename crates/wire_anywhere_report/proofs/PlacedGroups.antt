-- The groups of findings of all placements.
use Rattle.std.proofs.Common.{◌≡◌, ◌∙◌, ap, ap₂, refl, ℕ, List, [], ◌∷◌, map, subst, Result, Ok, Err, IfOk, Vec, Global}
use Rattle.std.specs.declared.alloc.AllocError.{AllocError}
use Rattle.wire_scripts.specs.Scripts.{Scripts}
use Rattle.wire_report.specs.declared.tally.Group.{Group}
use Rattle.wire_report.specs.Grouped.{AreGroupsOf}
use Rattle.wire_report.specs.Label.{label_of}
use Rattle.wire_anywhere.specs.declared.placed.PlacedFinding.{PlacedFinding}
use Rattle.wire_anywhere_report.specs.PlacedGroups.{IsGroupedText, groups_report}
use Rattle.wire_anywhere_report.specs.PlacedJson.{IsGroupedJson, json_groups}
use Rattle.wire_anywhere_report.specs.PlacedLines.{findings_in}

-- the labels of findings are those of the findings without their ranks
pub labels_in : (s : Scripts) (found : List PlacedFinding) → map (λ placed. label_of s placed.finding) found ≡ map (label_of s) (findings_in found)
labels_in s [] = refl
labels_in s (placed ∷ found) = ap (λ labels. label_of s placed.finding ∷ labels) (labels_in s found)

-- a text that tells these groups, in lines or as JSON
pub told_in_groups : (name : List ℕ) (rows : List (List ℕ)) (s : Scripts) (found : List PlacedFinding) (groups shown : List Group) (r : Result (Vec ℕ Global) AllocError) →
    AreGroupsOf s (findings_in found) groups → shown ≡ groups → IfOk r (λ text. text.items ≡ groups_report name s rows found shown) → IfOk r (λ text. IsGroupedText name rows s found text.items)
told_in_groups name rows s found groups shown (Ok text) grouped is tells = record { groups = groups; grouped = grouped; tells = tells ∙ ap (groups_report name s rows found) is }
told_in_groups name rows s found groups shown (Err e) grouped is tells = tt

pub json_in_groups : (rows : List (List ℕ)) (s : Scripts) (found : List PlacedFinding) (groups shown : List Group) (r : Result (Vec ℕ Global) AllocError) →
    AreGroupsOf s (findings_in found) groups → shown ≡ groups → IfOk r (λ text. text.items ≡ json_groups rows s found shown) → IfOk r (λ text. IsGroupedJson rows s found text.items)
json_in_groups rows s found groups shown (Ok text) grouped is tells = record { groups = groups; grouped = grouped; tells = tells ∙ ap (json_groups rows s found) is }
json_in_groups rows s found groups shown (Err e) grouped is tells = tt
