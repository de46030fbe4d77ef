-- What the lines of a pattern's file declare, line by line, and which fault is the first.
use Rattle.std.specs.Prelude.{◌≡◌, ℕ, ◌+◌, ◌-◌, ◌==◌, ◌&&◌, ◌||◌, Bool, true, false, not, nat_lt, nat_le, List, [], ◌∷◌, ◌++◌}
use Rattle.std.specs.Prelude.{suc, length, take, map, count_by, Option, Some, None, is_some, is_none, Result, Ok, Err, MatchResult}
use Rattle.std.specs.Prelude.{◌⊎◌, if◌then◌else◌}
use Rattle.std.specs.List.{list_all}
use Rattle.std.specs.Str.{bytes_eq}
use Rattle.wire_types.specs.declared.Fault.{Fault}
use Rattle.wire_types.specs.declared.Fault.TheVariants.{TooLong, BadHeader, BadLine, Twice, TooMany}
use Rattle.wire_runs.specs.Patterns.{Turns}
use Rattle.wire_reader.specs.FirstPass.{Name, is_among, is_short_name, is_short_value}
use Rattle.wire_reader.specs.Statements.{Statement}
use Rattle.wire_pattern.specs.Pattern.{JobLine}
use Rattle.wire_pattern_lines.specs.Said.{Proc, Caller, Each, Named, Key, Item, One, Every, Set, Own, Listed}
use Rattle.wire_pattern_lines.specs.Said.{Call, Put, Commit, Fence, Get, GetNow, Publish, Lookup, LookupWait, Unpublish}
use Rattle.wire_pattern_lines.specs.Said.{UnpublishAll, Said, Header, Keep, Job, Single, Many, Begin, End, Calls, Says}
use Rattle.wire_pattern_lines.specs.Said.{names_each, is_commit}

-- how many jobs, roles and groups a file may have
abbrev pub job_limit : ℕ
job_limit = 16

abbrev pub role_limit : ℕ
role_limit = 64

abbrev pub group_limit : ℕ
group_limit = 6

-- how many roles a loop may list
abbrev pub list_limit : ℕ
list_limit = 8

-- a call line, with its number
abbrev pub LocatedCall : Type 0
LocatedCall = ℕ × Call

-- a loop: the number of its line, its turns, the names of its roles, and its call lines
pub record LoopLines : Type 0 where
  pub number : ℕ
  pub turns : Turns
  pub roles : List Name
  pub lines : List LocatedCall

pub data StepLines : Type 0 where
  OnceLine : LocatedCall → StepLines
  LoopOf : LoopLines → StepLines

-- a role: the number of its job, its name, whether it is of one process, how many it has at least, the number of its
-- line, and its script
pub record RoleLines : Type 0 where
  pub job : ℕ
  pub name : Name
  pub single : Bool
  pub least : ℕ
  pub number : ℕ
  pub steps : List StepLines

-- what was declared so far. begun: whether the last job has a role. open: the loop that no `end` has ended yet
pub record Declared : Type 0 where
  pub keeps : Bool
  pub jobs : List JobLine
  pub roles : List RoleLines
  pub begun : Bool
  pub open_loop : Option LoopLines

-- after the header
abbrev pub nothing : Declared
nothing = record { keeps = false; jobs = []; roles = []; begun = false; open_loop = None }

abbrev pub job_names : Declared → List Name
job_names d = map (λ j. j.name) d.jobs

abbrev pub role_names : Declared → List Name
role_names d = map (λ r. r.name) d.roles

-- a call outside of loops doesn't name the process of a turn; one in a loop does, unless it is a commit
abbrev pub is_turn_right : Option LoopLines → Call → Bool
is_turn_right None call = not (names_each call)
is_turn_right (Some l) call = is_commit call || names_each call

-- whether the line may stand after what was declared: `keep` once, before all other lines; no loop in a loop
abbrev pub is_in_place : Declared → Said → Bool
is_in_place d Header = false
is_in_place d Keep = not d.keeps && length d.jobs == 0
is_in_place d (Job name) = is_none d.open_loop
is_in_place d (Single name) = nat_lt 0 (length d.jobs) && is_none d.open_loop
is_in_place d (Many name least) = nat_lt 0 (length d.jobs) && is_none d.open_loop
is_in_place d (Begin turns roles) = d.begun && is_none d.open_loop
is_in_place d End = is_some d.open_loop
is_in_place d (Calls call) = d.begun && is_turn_right d.open_loop call

abbrev pub is_short_proc : Proc → Bool
is_short_proc Caller = true
is_short_proc Each = true
is_short_proc (Named role) = is_short_name role

-- the base of a key, and the names in its brackets
abbrev pub is_short_key : Key → Bool
is_short_key key = is_short_name key.base && list_all is_short_proc key.indices

abbrev pub is_short_item : Item → Bool
is_short_item (One proc) = is_short_proc proc
is_short_item (Every job) = is_short_name job

abbrev pub is_short_set : Set → Bool
is_short_set Own = true
is_short_set (Listed items) = list_all is_short_item items

abbrev pub is_short_call : Call → Bool
is_short_call (Put scope key value) = is_short_key key && is_short_value value
is_short_call Commit = true
is_short_call (Fence set collect) = is_short_set set
is_short_call (Get owner key) = is_short_proc owner && is_short_key key
is_short_call (GetNow owner key) = is_short_proc owner && is_short_key key
is_short_call (Publish name value) = is_short_key name && is_short_value value
is_short_call (Lookup name) = is_short_key name
is_short_call (LookupWait name) = is_short_key name
is_short_call (Unpublish name) = is_short_key name
is_short_call UnpublishAll = true

-- whether names, bases and values are within their limits
abbrev pub is_short : Said → Bool
is_short Header = true
is_short Keep = true
is_short (Job name) = is_short_name name
is_short (Single name) = is_short_name name
is_short (Many name least) = is_short_name name
is_short (Begin turns roles) = list_all is_short_name roles
is_short End = true
is_short (Calls call) = is_short_call call

-- whether each name is there once
abbrev pub are_once : List Name → Bool
are_once names = list_all (λ name. count_by (bytes_eq name) names == 1) names

-- whether a list has a name twice, as far as it is read: to the first name that is too much
abbrev pub lists_twice : List Name → Bool
lists_twice names = not (are_once (take (suc list_limit) names))

-- whether a line declared the name before, jobs among jobs, roles among roles, or the line lists a role twice
abbrev pub is_again : Declared → Said → Bool
is_again d Header = false
is_again d Keep = false
is_again d (Job name) = is_among (job_names d) name
is_again d (Single name) = is_among (role_names d) name
is_again d (Many name least) = is_among (role_names d) name
is_again d (Begin turns roles) = lists_twice roles
is_again d End = false
is_again d (Calls call) = false

-- how many roles are groups
abbrev pub group_count : Declared → ℕ
group_count d = count_by (λ r. not r.single) d.roles

-- whether there may be one more
abbrev pub has_room : Declared → Said → Bool
has_room d Header = true
has_room d Keep = true
has_room d (Job name) = nat_lt (length d.jobs) job_limit
has_room d (Single name) = nat_lt (length d.roles) role_limit
has_room d (Many name least) = nat_lt (length d.roles) role_limit && nat_lt (group_count d) group_limit
has_room d (Begin turns roles) = nat_le (length roles) list_limit
has_room d End = true
has_room d (Calls call) = true

-- one more step of the last role
abbrev pub with_step : List RoleLines → StepLines → List RoleLines
with_step [] step = []
with_step (r ∷ []) step = record r { steps = r.steps ++ step ∷ [] } ∷ []
with_step (r ∷ q ∷ rs) step = r ∷ with_step (q ∷ rs) step

-- one more role of the last job
abbrev pub with_role : Declared → ℕ → Name → Bool → ℕ → Declared
with_role d number name single least = record d {
  roles = d.roles ++ record { job = length d.jobs - 1; name = name; single = single; least = least; number = number; steps = [] } ∷ [];
  begun = true;
}

-- one more call: of the loop that is open, or else of the last role
abbrev pub with_call : Declared → Option LoopLines → LocatedCall → Declared
with_call d None call = record d { roles = with_step d.roles (OnceLine call) }
with_call d (Some l) call = record d { open_loop = Some (record l { lines = l.lines ++ call ∷ [] }) }

-- the open loop is a step of the last role
abbrev pub with_loop : Declared → Option LoopLines → Declared
with_loop d None = d
with_loop d (Some l) = record d { roles = with_step d.roles (LoopOf l); open_loop = None }

-- what is declared after a line
abbrev pub after : Declared → ℕ → Said → Declared
after d line Header = d
after d line Keep = record d { keeps = true }
after d line (Job name) = record d { jobs = d.jobs ++ record { name = name; number = line } ∷ []; begun = false }
after d line (Single name) = with_role d line name true 1
after d line (Many name least) = with_role d line name false least
after d line (Begin turns roles) = record d { open_loop = Some (record { number = line; turns = turns; roles = roles; lines = [] }) }
after d line End = with_loop d d.open_loop
after d line (Calls call) = with_call d d.open_loop (line, call)

-- what is declared after a line that says this, or its first fault
abbrev pub judged : Declared → ℕ → Said → Result Declared Fault
judged d line said =
    if not (is_in_place d said) then Err (BadLine line)
    else if not (is_short said) then Err (TooLong line)
    else if is_again d said then Err (Twice line)
    else if not (has_room d said) then Err (TooMany line)
    else Ok (after d line said)

-- one line, after what was declared
abbrev pub Judges : Declared → Statement → Result Declared Fault → Type 0
Judges d line r =
    (((said : Said) → Says line.1 said → ⊥) × (r ≡ Err (BadLine line.0)))
    ⊎ ((said : Said) × Says line.1 said × (r ≡ judged d line.0 said))

-- at the end of the file no loop is open
abbrev pub ended : Declared → ℕ → Result Declared Fault
ended d last = if is_some d.open_loop then Err (BadLine (last + 1)) else Ok d

-- the lines after the header, from the top, where the last line before them has the number `last`
abbrev pub JudgesAll : Declared → ℕ → List Statement → Result Declared Fault → Type 0
JudgesAll d last [] r = r ≡ ended d last
JudgesAll d last (line ∷ lines) r =
    (q : Result Declared Fault) × Judges d line q × MatchResult q (λ e. JudgesAll e line.0 lines r) (λ f. r ≡ Err f)

-- the first pass over the lines that aren't skipped, in a file of n lines
abbrev pub FirstPass : List Statement → ℕ → Result Declared Fault → Type 0
FirstPass [] n r = r ≡ Err (BadHeader (n + 1))
FirstPass (line ∷ lines) n r =
    (Says line.1 Header × JudgesAll nothing line.0 lines r)
    ⊎ ((Says line.1 Header → ⊥) × (r ≡ Err (BadHeader line.0)))
