-- Where a finding stands in the list: for the contracts of `Found`, and of private functions.
use Rattle.std.specs.Prelude.{◌≡◌, ◌<◌, true, false, ℕ, List, [], length}
use Rattle.std.specs.List.{AllAdjacentBelow}
use Rattle.std.specs.Cmp.Lexicographic.{slice_cmp}
use Rattle.std.specs.declared.cmp.Ordering.{Ordering}
use Rattle.std.specs.declared.cmp.Ordering.TheVariants.{Less}
use Rattle.std.specs.Ordering.{ordering_then, then_cmp, on, nat_cmp, bool_cmp}
use Rattle.wire_types.specs.declared.CallAt.{CallAt}
use Rattle.wire_runs.specs.Plan.{Plan, Event}
use Rattle.wire_runs.specs.Findings.{NameRace, IsFound}
use Rattle.wire_scripts.specs.Scripts.{text_at}
use Rattle.wire_scripts.specs.Apart.{AreDistinct}
use Rattle.wire_findings.specs.declared.finding.Finding.{Finding as Told}
use Rattle.wire_findings.specs.declared.finding.Finding.TheVariants as told
use Rattle.wire_findings.specs.declared.packed.Subject.{Subject}
use Rattle.wire_findings.specs.declared.packed.Packed.{Packed}
use Rattle.wire_findings.specs.declared.found.Standing.{Standing}
use Rattle.wire_findings.specs.Packing.{told_by}

-- a rewrite by the later put, a race by its calls
abbrev pub standing : Told → Standing
standing (told.Rewrite first later) = record { is_race = false; by = later; then = first }
standing (told.KeyRace lower higher owner key) = record { is_race = true; by = lower; then = higher }
standing (told.NameRace lower higher name) = record { is_race = true; by = lower; then = higher }

-- the bytes of the name of a race on a name, none for other findings
abbrev pub race_name : List (List ℕ) → Told → List ℕ
race_name names (told.NameRace lower higher name) = text_at names name
race_name names _ = []

-- calls by their processes, and by their numbers there
abbrev pub call_cmp : CallAt → CallAt → Ordering
call_cmp v w = ordering_then (nat_cmp v.proc.number w.proc.number) (nat_cmp v.call w.call)

-- rewrites first
abbrev pub standing_cmp : Standing → Standing → Ordering
standing_cmp a b = ordering_then (bool_cmp a.is_race b.is_race) (ordering_then (call_cmp a.by b.by) (call_cmp a.then b.then))

-- by the standing, and races of one pair by the bytes of their names
abbrev pub told_cmp : List (List ℕ) → Told → Told → Ordering
told_cmp names = then_cmp (on standing standing_cmp) (on (race_name names) (slice_cmp nat_cmp))

-- the same of entries
abbrev pub entry_cmp : List (List ℕ) → List Subject → Packed → Packed → Ordering
entry_cmp names subjects = on (told_by subjects) (told_cmp names)

-- each entry stands before the next
abbrev pub AreInOrder : List (List ℕ) → List Subject → List Packed → Type 0
AreInOrder names subjects entries = AllAdjacentBelow (λ x y. entry_cmp names subjects x y ≡ Less) entries (length entries)

-- the names of the plan: no text is there twice, and races on names are on these
pub record AreNamesOf (plan : Plan) (names : List (List ℕ)) : Type 0 where
  pub apart : AreDistinct names
  pub within : (x y : Event) (name : ℕ) → IsFound plan (NameRace x y name) → name < length names
