-- How much room the lines of findings take, and the parts of a race's line (only private contracts cite this).
use Rattle.std.specs.Prelude.{◌≡◌, ℕ, ◌^◌, ◌<◌, ◌≤◌, List, ◌++◌, Option, IfSome, codes, length}
use Rattle.wire_scripts.specs.Scripts.{Scripts, text_at}
use Rattle.wire_types.specs.declared.CallAt.{CallAt}
use Rattle.wire_findings.specs.declared.finding.Finding.{Finding}
use Rattle.wire_findings.specs.declared.finding.Finding.TheVariants.{Rewrite, KeyRace, NameRace}
use Rattle.wire_words.specs.Words.{name_of, call_text}
use Rattle.wire_report.specs.Findings.{finding_line, count_line}

-- no text of a table is longer
abbrev pub NoneIsLonger : List (List ℕ) → ℕ → Type 0
NoneIsLonger texts n = (k : ℕ) → length (text_at texts k) ≤ n

-- the numbers of two calls fit in 32 bits
abbrev pub AreNumbered : CallAt → CallAt → Type 0
AreNumbered first second = (first.call < 2 ^ 32) × (second.call < 2 ^ 32)

-- and so do those of the calls of a finding
abbrev pub IsNumbered : Finding → Type 0
IsNumbered (Rewrite first later) = AreNumbered first later
IsNumbered (KeyRace lower higher owner key) = AreNumbered lower higher
IsNumbered (NameRace lower higher name) = AreNumbered lower higher

-- room for the line of any finding, and for the last line
pub record HoldsAnyLine (scripts : Scripts) (room : ℕ) : Type 0 where
  pub lines : (finding : Finding) → IsNumbered finding → length (finding_line scripts finding) ≤ room
  pub last : (count : ℕ) → count < 2 ^ 64 → length (count_line count) ≤ room

-- the words of a race up to its lower call
abbrev pub race_start : Scripts → CallAt → List ℕ
race_start scripts lower = codes "race " ++ call_text scripts lower

-- the words of a race up to this call, where there is one
abbrev pub AreWordsOf : Scripts → Option CallAt → List ℕ → Type 0
AreWordsOf scripts call words = IfSome call (λ lower. words ≡ race_start scripts lower)

-- the words of a race on a key that follow its lower call
abbrev pub key_race_rest : Scripts → CallAt → ℕ → ℕ → List ℕ
key_race_rest scripts higher owner key = codes " " ++ call_text scripts higher ++ codes " key " ++ name_of scripts owner ++ codes " "
    ++ text_at scripts.keys key

-- the words of a race on a name that follow its lower call
abbrev pub name_race_rest : Scripts → CallAt → ℕ → List ℕ
name_race_rest scripts higher name = codes " " ++ call_text scripts higher ++ codes " name " ++ text_at scripts.names name
