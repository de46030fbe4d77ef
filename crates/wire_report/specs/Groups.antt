-- The groups of a list of labels: one for each label that is there.
use Rattle.std.specs.Prelude.{◌≡◌, Bool, List, length, sum_by, count_by}
use Rattle.std.specs.List.{All, Contains, position_or_len}
use Rattle.std.specs.List.Sorted.{IsStrictlySortedBy}
use Rattle.std.specs.declared.cmp.Ordering.{Ordering}
use Rattle.std.specs.Ordering.{nat_cmp, ordering_then}
use Rattle.wire_report.specs.declared.tally.Group.{Group}

-- the order of groups: by falling count, then by the place of the first
abbrev pub group_cmp : Group → Group → Ordering
group_cmp x y = ordering_then (nat_cmp y.count x.count) (nat_cmp x.first y.first)

module _ {K : Type 0} (same : K → K → Bool) where
  -- the group of a label: the first place that has it, and how many have it
  abbrev pub group_of : List K → K → Group
  group_of labels label = record { first = position_or_len (same label) labels; count = count_by (same label) labels }

  -- it is the group of a label that is there
  abbrev pub IsOfLabel : List K → Group → Type 0
  IsOfLabel labels group = (label : K) × Contains labels label × (group ≡ group_of labels label)

  -- the groups of the labels: that of each label and no other, each once, the larger first; and each place counts in one of them
  pub record AreGroups (labels : List K) (groups : List Group) : Type 0 where
    pub each : All (λ label. Contains groups (group_of labels label)) labels
    pub only : All (IsOfLabel labels) groups
    pub rising : IsStrictlySortedBy group_cmp groups
    pub whole : sum_by (λ (g : Group). g.count) groups ≡ length labels
