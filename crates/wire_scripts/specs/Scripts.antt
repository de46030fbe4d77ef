-- What a plan says. Nodes and jobs are numbered as declared, keys, names, values and sets of processes as first
-- seen, and processes as they stand.
use Rattle.std.specs.Prelude.{◌≡◌, ℕ, ◌<◌, ◌≤◌, ◌^◌, Bool, true, false, List, [], length, map, sum_by, nat_lt, Option}
use Rattle.std.specs.Prelude.{Some, None, slice_get, slice_index_or}
use Rattle.std.specs.List.{list_all}
use Rattle.wire_runs.specs.Plan.{set_of}
use Rattle.wire_runs.specs.Fences.{is_member}
use Rattle.wire_types.specs.declared.Call.{Call}
use Rattle.wire_types.specs.declared.Call.TheVariants.{Fence, Get, GetNow, Publish, Lookup, LookupWait, Unpublish}
use Rattle.wire_types.specs.declared.Proc.{Proc}
use Rattle.wire_types.specs.declared.Version.{Version}
use Rattle.wire_types.specs.declared.Version.TheVariants.{One, Two}
use Rattle.wire_scripts.specs.Map.{job_at, rank_of}
pub use Rattle.wire_scripts.specs.Process.{Process}

-- keeps: whether what a get brings to a node stays there
pub record Scripts : Type 0 where
  pub version : Version
  pub nodes : List (List ℕ)
  pub jobs : List (List ℕ)
  pub keys : List (List ℕ)
  pub names : List (List ℕ)
  pub values : List (List ℕ)
  pub sets : List (List ℕ)
  pub processes : List Process
  pub keeps : Bool

-- scripts of no process
abbrev pub no_scripts : Scripts
no_scripts = record { version = One; nodes = []; jobs = []; keys = []; names = []; values = []; sets = []; processes = []; keeps = false }

-- the same under version 2 of the format
abbrev pub under_version_2 : Scripts → Scripts
under_version_2 s = record s { version = Two }

-- the numbers of processes
abbrev pub numbers_of : List Proc → List ℕ
numbers_of procs = map (λ p. p.number) procs

-- the text of a number, empty where the number has none
abbrev pub text_at : List (List ℕ) → ℕ → List ℕ
text_at texts n = slice_index_or texts n []

-- the processes of a set, none where the number has no set
abbrev pub set_at : List (List ℕ) → ℕ → List ℕ
set_at sets n = slice_index_or sets n []

abbrev pub calls_in : Option Process → List Call
calls_in None = []
calls_in (Some process) = process.calls

-- the call of a process, by both numbers
abbrev pub call_at : List Process → ℕ → ℕ → Option Call
call_at processes p c = slice_get (calls_in (slice_get processes p)) c

-- how many calls all processes make
abbrev pub call_count : List Process → ℕ
call_count processes = sum_by (λ p. length p.calls) processes

-- few enough processes and calls that numbers of 32 bits name them and their events
pub record IsCounted (processes : List Process) : Type 0 where
  pub few_processes : length processes < 2 ^ 31
  pub few_calls : call_count processes < 2 ^ 31

-- processes stand in the order of their jobs, and the rank of each is the number of processes of its job before it
pub record AreRanked (processes : List Process) : Type 0 where
  pub together : (p q : ℕ) → p ≤ q → q < length processes → job_at processes p ≤ job_at processes q
  pub ranks : (p : ℕ) (process : Process) → slice_get processes p ≡ Some process → process.rank ≡ rank_of processes p

-- each set is one of processes, each once and in order, and no set is there twice
pub record AreSets (processes : List Process) (sets : List (List ℕ)) : Type 0 where
  pub canonical : (n : ℕ) (set : List ℕ) → slice_get sets n ≡ Some set → set_of set ≡ set
  pub within : (n : ℕ) (set : List ℕ) → slice_get sets n ≡ Some set → list_all (λ m. nat_lt m (length processes)) set ≡ true
  pub once : (m n : ℕ) (set : List ℕ) → slice_get sets m ≡ Some set → slice_get sets n ≡ Some set → m ≡ n

-- the set of each fence is there, and its caller is a member
abbrev pub AreMembers : List Process → List (List ℕ) → Type 0
AreMembers processes sets = (p c set : ℕ) (collect : Bool) → call_at processes p c ≡ Some (Fence set collect) → (set < length sets)
    × (is_member (set_at sets set) p ≡ true)

-- the owner of the key that a get names
abbrev pub owner_in : Call → Option ℕ
owner_in (Get owner key) = Some owner.number
owner_in (GetNow owner key) = Some owner.number
owner_in _ = None

-- the owner of each get is one of the processes
abbrev pub AreOwned : List Process → Type 0
AreOwned processes = (p c owner : ℕ) (call : Call) → call_at processes p c ≡ Some call → owner_in call ≡ Some owner → owner < length processes

-- the name of a call on a name
abbrev pub name_in : Call → Option ℕ
name_in (Publish name value) = Some name
name_in (Lookup name) = Some name
name_in (LookupWait name) = Some name
name_in (Unpublish name) = Some name
name_in _ = None

-- the name of each call on a name is there
abbrev pub NamesAreThere : List Process → List (List ℕ) → Type 0
NamesAreThere processes names = (p c name : ℕ) (call : Call) → call_at processes p c ≡ Some call → name_in call ≡ Some name → name < length names

-- what runs of scripts take for granted
pub record IsSound (s : Scripts) : Type 0 where
  pub counted : IsCounted s.processes
  pub ranked : AreRanked s.processes
  pub owned : AreOwned s.processes
  pub sets : AreSets s.processes s.sets
  pub members : AreMembers s.processes s.sets
  pub names : NamesAreThere s.processes s.names
