-- How a plan's text spells the sets of its fences: which of its lines are calls, the items of a set, and when two sets
-- are spelt the same.
use Rattle.std.specs.Prelude.{◌≡◌, ◌↔◌, ◌⊎◌, ℕ, ◌≤◌, ◌==◌, ◌||◌, Bool, false, List, [], ◌∷◌, ◌++◌, Option, Some, None, map, codes, if◌then◌else◌, slice_get, slice_index, slice_index_or, count_by, IsTrue}
use Rattle.std.specs.Str.{bytes_eq}
use Rattle.std.specs.List.{slice_split}
use Rattle.wire_lines.specs.Text.{lines_of, words_of}
use Rattle.wire_spelling.specs.declared.spelling.Spelt.{Spelt}

-- what a line says of calls: the calls of the next process follow, the calls that follow are of a job, or it is a call,
-- that of a fence with its set
pub data SaidOfCalls : Type 0 where
  Nothing : SaidOfCalls
  Rank : SaidOfCalls
  Job : (name : List ℕ) → SaidOfCalls
  Call : (set : Option (List ℕ)) → SaidOfCalls

-- the line is a note, or says something of the whole plan
abbrev pub is_note : List ℕ → Bool
is_note word = slice_index word 0 == 35

abbrev pub is_header : List ℕ → Bool
is_header word = bytes_eq word (codes "rehearsal") || (bytes_eq word (codes "keep") || bytes_eq word (codes "node"))

abbrev pub first_of : List (List ℕ) → List ℕ
first_of [] = []
first_of (word ∷ words) = word

-- the set of a call, by its first word and its other words
abbrev pub set_in : List ℕ → List (List ℕ) → Option (List ℕ)
set_in verb words = if bytes_eq verb (codes "fence") then slice_get words 0 else None

-- what a line says by its first word and its other words
abbrev pub said_with : List ℕ → List (List ℕ) → SaidOfCalls
said_with word words =
    if is_note word || is_header word then Nothing
    else if bytes_eq word (codes "rank") then Rank
    else if bytes_eq word (codes "job") then Job (first_of words)
    else Call (set_in word words)

-- what the words of a line say
abbrev pub said_of : List (List ℕ) → SaidOfCalls
said_of [] = Nothing
said_of (word ∷ words) = said_with word words

-- a set as a call spells it, and the job of the caller
pub record SpelledSet : Type 0 where
  pub job : List ℕ
  pub set : List ℕ

abbrev pub of_job : List ℕ → Option (List ℕ) → Option SpelledSet
of_job job None = None
of_job job (Some set) = Some (record { job = job; set = set })

-- the calls of lines: those before the first process of which they speak, and those of each process
pub record CallRows : Type 0 where
  pub before : List (Option SpelledSet)
  pub rows : List (List (Option SpelledSet))

abbrev pub no_calls : CallRows
no_calls = record { before = []; rows = [] }

-- the job of the calls behind a line
abbrev pub job_after : List ℕ → SaidOfCalls → List ℕ
job_after job (Job name) = name
job_after job _ = job

-- the calls of a line and of those behind it
abbrev pub calls_with : List ℕ → SaidOfCalls → CallRows → CallRows
calls_with job Rank behind = record { before = []; rows = behind.before ∷ behind.rows }
calls_with job (Call set) behind = record { before = of_job job set ∷ behind.before; rows = behind.rows }
calls_with job _ behind = behind

abbrev pub calls_in : List ℕ → List (List (List ℕ)) → CallRows
calls_in job [] = no_calls
calls_in job (words ∷ lines) = calls_with job (said_of words) (calls_in (job_after job (said_of words)) lines)

abbrev pub calls_of_text : List ℕ → CallRows
calls_of_text text = calls_in [] (map words_of (lines_of text))

-- for each process of a text and each of its calls the set that it spells, if it is one of a fence
abbrev pub spelled_sets : List ℕ → List (List (Option SpelledSet))
spelled_sets text = (calls_of_text text).rows

-- the items of a set: what stands between its commas; `all` is the job of the caller
abbrev pub items_of : SpelledSet → List (List ℕ)
items_of spelled =
    if bytes_eq spelled.set (codes "all") then (spelled.job ++ codes ":*") ∷ [] else slice_split (λ b. b == 44) spelled.set

-- how often an item stands there
abbrev pub times : List ℕ → List (List ℕ) → ℕ
times item items = count_by (λ other. bytes_eq other item) items

-- two sets have the same items, each as often, in whatever order
abbrev pub AreSpeltAlike : SpelledSet → SpelledSet → Type 0
AreSpeltAlike one other = (item : List ℕ) → times item (items_of one) ≡ times item (items_of other)

-- an item stands there twice
pub record HasItemTwice (items : List (List ℕ)) : Type 0 where
  pub item : List ℕ
  pub twice : 2 ≤ times item items

-- all processes of a job stand there, and another item of the job
pub record HasWholeJobAndMore (items : List (List ℕ)) : Type 0 where
  pub job : List ℕ
  pub rank : List ℕ
  pub whole : 1 ≤ times (job ++ codes ":*") items
  pub more : 1 ≤ times (job ++ (codes ":" ++ rank)) items
  pub apart : bytes_eq rank (codes "*") ≡ false

-- a set names a process or a job twice
abbrev pub HasTwice : SpelledSet → Type 0
HasTwice spelled = HasItemTwice (items_of spelled) ⊎ HasWholeJobAndMore (items_of spelled)

-- what rows have of p's call number c, if anything
abbrev pub at_call : {A : Type 0} → List (List (Option A)) → ℕ → ℕ → Option A
at_call rows p c = slice_index_or (slice_index_or rows p []) c None

-- each set has a number, two of them the same exactly where they are spelt alike, and it is told whether it names a process
-- or a job twice
pub record AreSetsNumbered (sets : List (List (Option SpelledSet))) (rows : List (List (Option Spelt))) : Type 0 where
  pub none : (p c : ℕ) → at_call sets p c ≡ None → at_call rows p c ≡ None
  pub some : (p c : ℕ) (set : SpelledSet) → at_call sets p c ≡ Some set → (spelt : Spelt) × (at_call rows p c ≡ Some spelt)
  pub twice : (p c : ℕ) (set : SpelledSet) (spelt : Spelt) → at_call sets p c ≡ Some set → at_call rows p c ≡ Some spelt →
      (IsTrue spelt.repeats ↔ HasTwice set)
  pub alike : (p c q d : ℕ) (one other : SpelledSet) (a b : Spelt) → at_call sets p c ≡ Some one → at_call sets q d ≡ Some other →
      at_call rows p c ≡ Some a → at_call rows q d ≡ Some b → ((a.number ≡ b.number) ↔ AreSpeltAlike one other)
