-- Findings in few bytes, and what they stand for: for private functions, and for what a `Found` and a `FindingList`
-- stand for.
use Rattle.std.specs.Prelude.{◌≡◌, ◌++◌, ◌<◌, ◌≤◌, ◌-◌, ◌==◌, ⊤, ℕ, Bool, true, false, List, [], ◌∷◌, Option, Some}
use Rattle.std.specs.Prelude.{None, length, map, slice_get}
use Rattle.wire_types.specs.declared.CallAt.{CallAt}
use Rattle.wire_findings.specs.declared.finding.Finding.{Finding as Told}
use Rattle.wire_findings.specs.declared.finding.Finding.TheVariants as told
use Rattle.wire_findings.specs.declared.packed.Subject.{Subject}
use Rattle.wire_findings.specs.declared.packed.Subject.TheVariants as subject
use Rattle.wire_findings.specs.declared.packed.Packed.{Packed}

-- two calls that race on this (on the name of number 0, where there is no such subject, which isn't met)
abbrev pub race_on : Option Subject → CallAt → CallAt → Told
race_on (Some (subject.Key owner key)) lower higher = told.KeyRace lower higher owner key
race_on (Some (subject.Name name)) lower higher = told.NameRace lower higher name
race_on None lower higher = told.NameRace lower higher 0

-- a rewrite, or a race on this
abbrev pub told_of : Bool → Option Subject → CallAt → CallAt → Told
told_of true on by other = told.Rewrite other by
told_of false on by other = race_on on by other

-- the finding that an entry stands for
abbrev pub told_by : List Subject → Packed → Told
told_by subjects entry = told_of (entry.subject == 0) (slice_get subjects (entry.subject - 1)) entry.by entry.then

abbrev pub all_told_by : List Subject → List Packed → List Told
all_told_by subjects entries = map (told_by subjects) entries

-- each race has a subject of the table
abbrev pub AreWithin : List Subject → List Packed → Type 0
AreWithin subjects [] = ⊤
AreWithin subjects (entry ∷ entries) = (entry.subject ≤ length subjects) × AreWithin subjects entries

-- the table has grown at its end, or not at all
abbrev pub HasMore : List Subject → List Subject → Type 0
HasMore old new = (more : List Subject) × (new ≡ old ++ more)

-- this is the last subject
abbrev pub IsLastSubject : List Subject → Subject → Type 0
IsLastSubject subjects subject = slice_get subjects (length subjects - 1) ≡ Some subject

-- the place of the subject in the table, counted from 1
abbrev pub IsNumberOf : List Subject → Subject → ℕ → Type 0
IsNumberOf subjects subject n = (0 < n) × (n ≤ length subjects) × (slice_get subjects (n - 1) ≡ Some subject)
