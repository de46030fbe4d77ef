-- What the lines of a file declare, line by line, and which fault is the first.
use Rattle.std.specs.Prelude.{◌≡◌, ℕ, ◌+◌, ◌-◌, ◌==◌, ◌&&◌, Bool, true, false, not, nat_lt, nat_le, List, [], ◌∷◌, ◌++◌}
use Rattle.std.specs.Prelude.{length, Result, Ok, Err, MatchResult}
use Rattle.std.specs.Prelude.{◌⊎◌, if◌then◌else◌}
use Rattle.std.specs.List.{list_any, list_all, position_or_len}
use Rattle.std.specs.Str.{bytes_eq}
use Rattle.wire_types.specs.declared.Version.{Version}
use Rattle.wire_types.specs.declared.Version.TheVariants as version
use Rattle.wire_lines.specs.Said.{Item, One, Every, Set, Own, Listed, Call, Put, Commit, Fence, Get}
use Rattle.wire_lines.specs.Said.{GetNow, Publish, Lookup, LookupWait, Unpublish, UnpublishAll}
use Rattle.wire_lines.specs.Said.{Said, Header, Keep, Node, Job, Rank, Calls, Says}
use Rattle.wire_reader.specs.declared.limits.Limits.{Limits}
use Rattle.wire_reader.specs.declared.limits.Size.{Size}
use Rattle.wire_reader.specs.Limits.{name_bytes, value_bytes, limits_of}
use Rattle.wire_reader.specs.Statements.{Statement}
use Rattle.wire_types.specs.declared.Fault.{Fault}
use Rattle.wire_types.specs.declared.Fault.TheVariants.{TooLong, BadHeader, BadLine, UnknownName, Twice, TooMany}

abbrev pub Name : Type 0
Name = List ℕ

abbrev pub is_among : List Name → Name → Bool
is_among names name = list_any (bytes_eq name) names

-- the number of a name, or that of all where it isn't there
abbrev pub number_or_count : List Name → Name → ℕ
number_or_count names name = position_or_len (bytes_eq name) names

-- a process: the number of its job, its rank, the number of its node, and its calls, each with its line
pub record Started : Type 0 where
  pub job : ℕ
  pub rank : ℕ
  pub node : ℕ
  pub calls : List (ℕ × Call)

-- what was declared so far, under which version and within which limits, whether what a get brings to a node stays
-- there, how many processes of the last job, and how many calls
pub record Declared : Type 0 where
  pub version : Version
  pub keeps : Bool
  pub limits : Limits
  pub nodes : List Name
  pub jobs : List Name
  pub processes : List Started
  pub ranks : ℕ
  pub calls : ℕ

-- after the header
abbrev pub nothing : Size → Version → Declared
nothing size version = record { version = version; keeps = false; limits = limits_of size version; nodes = []; jobs = []; processes = []; ranks = 0; calls = 0 }

-- whether a file of this version may say `keep`
abbrev pub has_keep : Version → Bool
has_keep version.One = false
has_keep version.Two = true

-- whether a file of this version may say `unpublish *`
abbrev pub has_star : Version → Bool
has_star version.One = false
has_star version.Two = true

-- whether it may make the call
abbrev pub has_call : Version → Call → Bool
has_call version UnpublishAll = has_star version
has_call version _ = true

-- whether the line may stand after what was declared: `keep` once, before all other lines
abbrev pub is_in_place : Declared → Said → Bool
is_in_place d (Header version) = false
is_in_place d Keep = has_keep d.version && (not d.keeps && (length d.nodes == 0 && length d.jobs == 0))
is_in_place d (Node name) = length d.jobs == 0
is_in_place d (Job name) = true
is_in_place d (Rank node) = nat_lt 0 (length d.jobs)
is_in_place d (Calls call) = nat_lt 0 d.ranks && has_call d.version call

abbrev pub is_short_name : Name → Bool
is_short_name name = nat_le (length name) name_bytes

abbrev pub is_short_value : List ℕ → Bool
is_short_value value = nat_le (length value) value_bytes

abbrev pub is_short_item : Item → Bool
is_short_item (One job rank) = is_short_name job
is_short_item (Every job) = is_short_name job

abbrev pub is_short_set : Set → Bool
is_short_set Own = true
is_short_set (Listed items) = list_all is_short_item items

abbrev pub is_short_call : Call → Bool
is_short_call (Put scope key value) = is_short_name key && is_short_value value
is_short_call Commit = true
is_short_call (Fence set collect) = is_short_set set
is_short_call (Get job rank key) = is_short_name job && is_short_name key
is_short_call (GetNow job rank key) = is_short_name job && is_short_name key
is_short_call (Publish name value) = is_short_name name && is_short_value value
is_short_call (Lookup name) = is_short_name name
is_short_call (LookupWait name) = is_short_name name
is_short_call (Unpublish name) = is_short_name name
is_short_call UnpublishAll = true

-- whether the names, keys and values are within their limits
abbrev pub is_short : Said → Bool
is_short (Header version) = true
is_short Keep = true
is_short (Node name) = is_short_name name
is_short (Job name) = is_short_name name
is_short (Rank node) = is_short_name node
is_short (Calls call) = is_short_call call

-- whether the node of a process is declared
abbrev pub is_known : Declared → Said → Bool
is_known d (Header version) = true
is_known d Keep = true
is_known d (Node name) = true
is_known d (Job name) = true
is_known d (Rank node) = is_among d.nodes node
is_known d (Calls call) = true

-- whether a line of its kind declared the name before
abbrev pub is_again : Declared → Said → Bool
is_again d (Header version) = false
is_again d Keep = false
is_again d (Node name) = is_among d.nodes name
is_again d (Job name) = is_among d.jobs name
is_again d (Rank node) = false
is_again d (Calls call) = false

-- whether there may be one more
abbrev pub has_room : Declared → Said → Bool
has_room d (Header version) = true
has_room d Keep = true
has_room d (Node name) = nat_lt (length d.nodes) d.limits.nodes
has_room d (Job name) = nat_lt (length d.jobs) d.limits.jobs
has_room d (Rank node) = nat_lt (length d.processes) d.limits.processes
has_room d (Calls call) = nat_lt d.calls d.limits.calls

-- one more call of the last process
abbrev pub with_call : List Started → ℕ × Call → List Started
with_call [] call = []
with_call (p ∷ []) call = record p { calls = p.calls ++ call ∷ [] } ∷ []
with_call (p ∷ q ∷ ps) call = p ∷ with_call (q ∷ ps) call

-- what is declared after a line
abbrev pub after : Declared → ℕ → Said → Declared
after d line (Header version) = d
after d line Keep = record d { keeps = true }
after d line (Node name) = record d { nodes = d.nodes ++ name ∷ [] }
after d line (Job name) = record d { jobs = d.jobs ++ name ∷ []; ranks = 0 }
after d line (Rank node) = record d {
  processes = d.processes ++ record { job = length d.jobs - 1; rank = d.ranks; node = number_or_count d.nodes node; calls = [] } ∷ [];
  ranks = d.ranks + 1;
}
after d line (Calls call) = record d { processes = with_call d.processes (line, call); calls = d.calls + 1 }

-- what is declared after a line that says this, or its first fault
abbrev pub judged : Declared → ℕ → Said → Result Declared Fault
judged d line said =
    if not (is_in_place d said) then Err (BadLine line)
    else if not (is_short said) then Err (TooLong line)
    else if not (is_known d said) then Err (UnknownName line)
    else if is_again d said then Err (Twice line)
    else if not (has_room d said) then Err (TooMany line)
    else Ok (after d line said)

-- one line, after what was declared
abbrev pub Judges : Declared → Statement → Result Declared Fault → Type 0
Judges d line r =
    (((said : Said) → Says line.1 said → ⊥) × (r ≡ Err (BadLine line.0)))
    ⊎ ((said : Said) × Says line.1 said × (r ≡ judged d line.0 said))

-- the lines after the header, from the top
abbrev pub JudgesAll : Declared → List Statement → Result Declared Fault → Type 0
JudgesAll d [] r = r ≡ Ok d
JudgesAll d (line ∷ lines) r =
    (q : Result Declared Fault) × Judges d line q × MatchResult q (λ e. JudgesAll e lines r) (λ f. r ≡ Err f)

-- the first pass over the lines that aren't skipped, in a file of n lines
abbrev pub FirstPass : Size → List Statement → ℕ → Result Declared Fault → Type 0
FirstPass size [] n r = r ≡ Err (BadHeader (n + 1))
FirstPass size (line ∷ lines) n r =
    ((version : Version) × Says line.1 (Header version) × JudgesAll (nothing size version) lines r)
    ⊎ (((version : Version) → Says line.1 (Header version) → ⊥) × (r ≡ Err (BadHeader line.0)))
