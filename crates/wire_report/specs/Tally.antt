-- What is counted so far, for the contracts of private functions.
use Rattle.std.specs.Prelude.{◌≡◌, Bool, List, [], map, fold, length, sum_by}
use Rattle.indexmap.specs.IndexSet.{insert_key}
use Rattle.wire_report.specs.declared.tally.Group.{Group}
use Rattle.wire_report.specs.declared.tally.Tally.{Tally}
use Rattle.wire_report.specs.Groups.{group_of}

-- the labels, each once and in the order of their first places
abbrev pub distinct : {K : Type 0} → (K → K → Bool) → List K → List K
distinct same labels = fold (insert_key same) [] labels

-- these labels are counted, each in the group of its own
pub record IsLabelTally {K : Type 0} (same : K → K → Bool) (labels : List K) (tally : Tally K) : Type 0 where
  pub keys : tally.labels.keys ≡ distinct same labels
  pub groups : tally.groups.items ≡ map (group_of same labels) (distinct same labels)
  pub whole : sum_by (λ (g : Group). g.count) tally.groups.items ≡ length labels
