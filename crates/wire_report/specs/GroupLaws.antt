-- What holds of the groups of a list of labels.
use Rattle.std.specs.Prelude.{◌≡◌, ℕ, ◌<◌, Bool, true, false, List, Some, slice_get, count_by}
use Rattle.wire_report.specs.declared.tally.Group.{Group}
use Rattle.wire_report.specs.Groups.{AreGroups}

module _ {K : Type 0} (same : K → K → Bool) where
  -- the first place of a group has this label
  abbrev pub HasLabel : List K → K → Group → Type 0
  HasLabel labels label group = (x : K) × (slice_get labels group.first ≡ Some x) × (same label x ≡ true)

  -- one of the groups has this label, and no other has: no place before its first has the label, and its count is how many have it
  pub record HasOneGroup (labels : List K) (groups : List Group) (label : K) : Type 0 where
    pub number : ℕ
    pub group : Group
    pub there : slice_get groups number ≡ Some group
    pub first : HasLabel labels label group
    pub none_before : (k : ℕ) (x : K) → k < group.first → slice_get labels k ≡ Some x → same label x ≡ false
    pub counts : group.count ≡ count_by (same label) labels
    pub only : (other : ℕ) (g : Group) → slice_get groups other ≡ Some g → HasLabel labels label g → other ≡ number

  -- the groups part the places: each place has one group, and each group has a place
  pub record ArePart (labels : List K) (groups : List Group) : Type 0 where
    pub one : (k : ℕ) (label : K) → slice_get labels k ≡ Some label → HasOneGroup labels groups label
    pub has_place : (number : ℕ) (group : Group) → slice_get groups number ≡ Some group → (label : K) × (slice_get labels group.first ≡ Some label)

  abbrev pub GroupsPart : Type 0
  GroupsPart = (labels : List K) (groups : List Group) → AreGroups same labels groups → ArePart labels groups

  -- labels have one list of groups
  abbrev pub OneListOfGroups : Type 0
  OneListOfGroups = (labels : List K) (groups others : List Group) → AreGroups same labels groups → AreGroups same labels others → groups ≡ others
