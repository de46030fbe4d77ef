-- What a finding of the code tells.
use Rattle.std.specs.Prelude.{ℕ, Bool, List, map}
use Rattle.std.specs.Cmp.Lexicographic.{slice_cmp}
use Rattle.std.specs.Ordering.{is_lt, nat_cmp}
use Rattle.wire_runs.specs.Plan.{Plan}
use Rattle.wire_runs.specs.Ends.{first_event}
use Rattle.wire_runs.specs.Findings.{Finding, Rewrite, KeyRace, NameRace, IsFindings}
use Rattle.wire_scripts.specs.Scripts.{Scripts, text_at}
use Rattle.wire_scripts.specs.Planned.{plan_of}
use Rattle.wire_findings.specs.declared.finding.Finding.{Finding as Told}
use Rattle.wire_findings.specs.declared.finding.Finding.TheVariants as told

-- each call by its first event
abbrev pub shown : Plan → Told → Finding
shown plan (told.Rewrite first later) = Rewrite (first_event plan first) (first_event plan later)
shown plan (told.KeyRace lower higher owner key) = KeyRace (first_event plan lower) (first_event plan higher) owner.number key
shown plan (told.NameRace lower higher name) = NameRace (first_event plan lower) (first_event plan higher) name

abbrev pub all_shown : Plan → List Told → List Finding
all_shown plan found = map (shown plan) found

-- whether the bytes of one name stand below those of another, each by its number
abbrev pub lower_name : List (List ℕ) → ℕ → ℕ → Bool
lower_name names m n = is_lt (slice_cmp nat_cmp (text_at names m) (text_at names n))

-- the list of all findings of the scripts' plan; two races of one pair by the bytes of their names
abbrev pub AreFindings : Scripts → List Told → Type 0
AreFindings s found = IsFindings (plan_of s) (lower_name s.names) (all_shown (plan_of s) found)
