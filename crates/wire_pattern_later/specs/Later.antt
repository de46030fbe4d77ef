-- At how many processes of each group something waits first, where nothing does with few of them.
use Rattle.std.specs.Prelude.{◌≡◌, ◌≢◌, ◌≤◌, ◌<◌, ◌^◌, ◌⊎◌, ◌↔◌, ℕ, Bool, true, List, [], ◌++◌, map, filter, Ok, Err, codes, decimal, slice_get, if◌then◌else◌}
use Rattle.std.specs.List.{range_with_len, flat_map}
use Rattle.wire_types.specs.Verbs.{text_of_verb}
use Rattle.wire_types.specs.declared.Fault.{Fault}
use Rattle.wire_scripts.specs.Scripts.{Scripts}
use Rattle.wire_reader.specs.declared.Size.TheVariants.{OfVersion}
use Rattle.wire_reader.specs.Reads.{Reads}
use Rattle.wire_pattern.specs.Pattern.{Role, Pattern}
use Rattle.wire_pattern.specs.Instances.{Cast, instance_text}
use Rattle.wire_cutoff_laws.specs.Sizes.{total_of}
use Rattle.wire_pattern_waits.specs.declared.lines.CallLine.{CallLine}
use Rattle.wire_pattern_waits.specs.Lines.{call_lines, name_in}
use Rattle.wire_pattern_waits.specs.Stops.{StuckAt}
use Rattle.wire_pattern_later.specs.Through.{first_size, last_size}

-- n processes of each group, and one of each single role
abbrev pub sizes_with : ℕ → List Role → List ℕ
sizes_with n roles = map (λ role. if role.single then 1 else n) roles

-- these, each on a node of its own, with all turns
abbrev pub grown : Pattern → ℕ → Cast
grown p n = record {
  sizes = sizes_with n p.roles;
  chosen = [];
  node_count = total_of (sizes_with n p.roles);
  nodes = range_with_len 0 (total_of (sizes_with n p.roles));
}

-- in the instance with n processes of each group a process of the role stands at the call line of this number where the
-- plain run can't go on
pub record StopsWith (p : Pattern) (n role line : ℕ) : Type 0 where
  pub scripts : Scripts
  pub reads : Reads OfVersion (instance_text p (grown p n)) (Ok scripts)
  pub stops : StuckAt p (grown p n) scripts role line

-- so many processes aren't too many, and the text of the instance with n processes of each group reads as a plan
abbrev pub IsReadWith : Pattern → ℕ → Type 0
IsReadWith p n = (total_of (sizes_with n p.roles) < 2 ^ 31) × ((scripts : Scripts) × Reads OfVersion (instance_text p (grown p n)) (Ok scripts))

-- it does, and of all call lines of the pattern these are exactly those at which something waits there, in their order
pub record AreWaitingWith (p : Pattern) (n : ℕ) (lines : List CallLine) : Type 0 where
  pub read : IsReadWith p n
  pub waits : ℕ → ℕ → Bool
  pub tells : (role line : ℕ) → (waits role line ≡ true) ↔ StopsWith p n role line
  pub are : lines ≡ filter (λ line. waits line.role line.number) (call_lines p)

-- the instance with n processes of each group: how many each role has, its text, and what that reads as
pub record IsInstanceWith (p : Pattern) (n : ℕ) (sizes text : List ℕ) (scripts : Scripts) : Type 0 where
  pub sizes_are : sizes ≡ sizes_with n p.roles
  pub text_is : text ≡ instance_text p (grown p n)
  pub reads : Reads OfVersion text (Ok scripts)

-- so many processes are too many, or the text of the instance doesn't read as a plan
abbrev pub IsUnreadWith : Pattern → ℕ → Type 0
IsUnreadWith p n = (2 ^ 31 ≤ total_of (sizes_with n p.roles)) ⊎ ((fault : Fault) × Reads OfVersion (instance_text p (grown p n)) (Err fault))

-- that is so, or the number itself is too large
abbrev pub IsPastLimits : Pattern → ℕ → Type 0
IsPastLimits p n = (2 ^ 31 ≤ n) ⊎ IsUnreadWith p n

-- with each number from the first that all groups may have, but less than n, nothing waits
abbrev pub NoneBelow : Pattern → ℕ → Type 0
NoneBelow p n = (k : ℕ) → first_size p.roles ≤ k → k < n → AreWaitingWith p k []

-- from the first size on, n is the least number of processes of each group with which something waits, at exactly these
-- lines
pub record AreLater (p : Pattern) (n : ℕ) (lines : List CallLine) : Type 0 where
  pub from : first_size p.roles ≤ n
  pub to : n ≤ last_size p.roles
  pub waiting : AreWaitingWith p n lines
  pub some : lines ≢ []
  pub least : NoneBelow p n

-- nothing waits with any number below some n, which is behind the last that is looked at or past the limits
abbrev pub IsNoneLater : Pattern → Type 0
IsNoneLater p = (n : ℕ) × (first_size p.roles ≤ n) × NoneBelow p n × ((last_size p.roles < n) ⊎ IsPastLimits p n)

-- that something waits first with n processes of each group, at this call line: `later N ROLE LINE VERB`
abbrev pub later_line : Pattern → ℕ → CallLine → List ℕ
later_line p n line =
    codes "later " ++ (decimal n ++ (codes " " ++ (name_in (slice_get p.roles line.role) ++ (codes " " ++ (decimal line.number ++ (codes " "
    ++ (text_of_verb line.verb ++ codes "\n")))))))

abbrev pub later_text : Pattern → ℕ → List CallLine → List ℕ
later_text p n lines = flat_map (later_line p n) lines
