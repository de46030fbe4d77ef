-- The text of findings in groups: two lines for each group, and last how many findings and groups there are.
use Rattle.std.specs.Prelude.{◌≡◌, ℕ, ◌==◌, List, [], ◌++◌, Option, Some, None, codes, decimal, length, slice_get}
use Rattle.std.specs.Prelude.{if◌then◌else◌}
use Rattle.std.specs.List.{flat_map}
use Rattle.wire_types.specs.declared.CallAt.{CallAt}
use Rattle.wire_scripts.specs.Scripts.{Scripts, text_at}
use Rattle.wire_findings.specs.declared.finding.Finding.{Finding}
use Rattle.wire_words.specs.Words.{call_text, verb_text_in}
use Rattle.wire_report.specs.declared.tally.Group.{Group}
use Rattle.wire_report.specs.declared.label.Subject.{Subject}
use Rattle.wire_report.specs.declared.label.Subject.TheVariants.{Rewrite, KeyRace, NameRace}
use Rattle.wire_report.specs.Place.{place_text}
use Rattle.wire_report.specs.Label.{call_there, pair_of, subject_of}
use Rattle.wire_report.specs.Grouped.{AreGroupsOf}

-- a call: its process, its number from 1 and its verb
abbrev pub said_call : Scripts → CallAt → List ℕ
said_call s call = call_text s call ++ codes " " ++ verb_text_in (call_there s call)

-- one word, or another where they are many
abbrev pub word_for : ℕ → List ℕ → List ℕ → List ℕ
word_for count one many = if count == 1 then one else many

-- what one finding on a subject is, or many are, up to the key or the name
abbrev pub subject_word : ℕ → Subject → List ℕ
subject_word count (Rewrite key) = word_for count (codes " rewrite of key ") (codes " rewrites of key ")
subject_word count (KeyRace key) = word_for count (codes " race on key ") (codes " races on key ")
subject_word count (NameRace name) = word_for count (codes " race on name ") (codes " races on name ")

-- the key or the name of a subject
abbrev pub subject_text : Scripts → Subject → List ℕ
subject_text s (Rewrite key) = text_at s.keys key
subject_text s (KeyRace key) = text_at s.keys key
subject_text s (NameRace name) = text_at s.names name

-- how many findings of a group are what, and on which key or name
abbrev pub counted : Scripts → ℕ → Subject → List ℕ
counted s count subject = decimal count ++ subject_word count subject ++ subject_text s subject

-- the two lines of a group: how many findings it has, and the two calls of the first
abbrev pub first_line : List ℕ → Scripts → List (List ℕ) → Finding → ℕ → List ℕ
first_line name s rows finding count =
    place_text name rows (pair_of finding).lower ++ counted s count (subject_of s finding) ++ codes ": " ++ said_call s (pair_of finding).lower ++ codes "\n"

-- a call that goes with the one in the line above
abbrev pub note_line : List ℕ → Scripts → List (List ℕ) → CallAt → List ℕ
note_line name s rows call = place_text name rows call ++ codes "note: " ++ said_call s call ++ codes "\n"

abbrev pub second_line : List ℕ → Scripts → List (List ℕ) → Finding → List ℕ
second_line name s rows finding = note_line name s rows (pair_of finding).higher

abbrev pub lines_of_group : List ℕ → Scripts → List (List ℕ) → Option Finding → ℕ → List ℕ
lines_of_group name s rows None count = []
lines_of_group name s rows (Some finding) count = first_line name s rows finding count ++ second_line name s rows finding

abbrev pub group_text : List ℕ → Scripts → List (List ℕ) → List Finding → Group → List ℕ
group_text name s rows found group = lines_of_group name s rows (slice_get found group.first) group.count

-- the last line
abbrev pub in_groups : ℕ → List ℕ
in_groups groups = if groups == 0 then [] else codes " in " ++ decimal groups ++ word_for groups (codes " group") (codes " groups")

abbrev pub last_line : ℕ → ℕ → List ℕ
last_line findings groups = codes "findings " ++ decimal findings ++ in_groups groups ++ codes "\n"

abbrev pub groups_report : List ℕ → Scripts → List (List ℕ) → List Finding → List Group → List ℕ
groups_report name s rows found groups = flat_map (group_text name s rows found) groups ++ last_line (length found) (length groups)

-- the text of these findings of scripts, whose calls stand on these lines of a file of this name
pub record IsLocatedText (name : List ℕ) (s : Scripts) (rows : List (List ℕ)) (found : List Finding) (text : List ℕ) : Type 0 where
  pub groups : List Group
  pub grouped : AreGroupsOf s found groups
  pub tells : text ≡ groups_report name s rows found groups
