-- The scripts that a text reads as, or its fault.
use Rattle.std.specs.Prelude.{◌≡◌, ℕ, ◌+◌, ◌<◌, ◌≤◌, ◌⊎◌, ◌==◌, ◌&&◌, Bool, true, not, nat_lt, List, [], ◌∷◌, length}
use Rattle.std.specs.Prelude.{map, filter, flat_map, take, count_by}
use Rattle.std.specs.Prelude.{Option, Some, None, Result, Ok, Err, MatchResult, if◌then◌else◌}
use Rattle.std.specs.List.{list_any, list_all, position_or_len}
use Rattle.std.specs.Str.{bytes_eq}
use Rattle.wire_types.specs.declared.Fault.{Fault}
use Rattle.wire_types.specs.declared.Fault.TheVariants.{TooLong, UnknownName, NotMember}
use Rattle.wire_types.specs.declared.Call.{Call}
use Rattle.wire_types.specs.declared.Call.TheVariants.{Put, Commit, Fence, Get, GetNow, Publish, Lookup, LookupWait}
use Rattle.wire_types.specs.declared.Call.TheVariants.{Unpublish, UnpublishAll}
use Rattle.wire_lines.specs.Text.{lines_of}
use Rattle.wire_lines.specs.Said as said
use Rattle.wire_scripts.specs.Scripts.{Process, Scripts}
use Rattle.wire_reader.specs.declared.limits.Size.{Size}
use Rattle.wire_reader.specs.Limits.{file_bytes}
use Rattle.wire_reader.specs.Statements.{statements}
use Rattle.wire_reader.specs.FirstPass.{Name, is_among, number_or_count, Started, Declared, FirstPass}

-- whether a process has this job, by its number, and this rank
abbrev pub is_proc : ℕ → ℕ → Started → Bool
is_proc job rank p = (p.job == job) && (p.rank == rank)

-- the number of a process, or that of all where there is none
abbrev pub proc_number : Declared → Name → ℕ → ℕ
proc_number d job rank = position_or_len (is_proc (number_or_count d.jobs job) rank) d.processes

-- whether there is such a process
unfoldable pub has_proc : Declared → Name → ℕ → Bool
has_proc d job rank = nat_lt (proc_number d job rank) (length d.processes)

-- whether an item of a set names a process
abbrev pub names_it : Declared → said.Item → Started → Bool
names_it d (said.One job rank) p = is_proc (number_or_count d.jobs job) rank p
names_it d (said.Every job) p = p.job == number_or_count d.jobs job

-- whether a process is in a set that a process of this job names
abbrev pub is_in : Declared → ℕ → said.Set → Started → Bool
is_in d own_job said.Own p = p.job == own_job
is_in d own_job (said.Listed items) p = list_any (λ i. names_it d i p) items

-- the numbers, the first of them n, of the processes that pass a test
abbrev pub places_from : (Started → Bool) → ℕ → List Started → List ℕ
places_from test n [] = []
places_from test n (p ∷ ps) = if test p then n ∷ places_from test (n + 1) ps else places_from test (n + 1) ps

-- the members of a set that a process of this job names
abbrev pub set_members : Declared → ℕ → said.Set → List ℕ
set_members d own_job set = places_from (is_in d own_job set) 0 d.processes

-- whether what an item names is declared: a process, or only its job
abbrev pub is_declared_item : Declared → said.Item → Bool
is_declared_item d (said.One job rank) = has_proc d job rank
is_declared_item d (said.Every job) = is_among d.jobs job

abbrev pub is_declared_set : Declared → said.Set → Bool
is_declared_set d said.Own = true
is_declared_set d (said.Listed items) = list_all (is_declared_item d) items

-- whether the processes and jobs that a call names are declared
abbrev pub is_declared_call : Declared → said.Call → Bool
is_declared_call d (said.Put scope key value) = true
is_declared_call d said.Commit = true
is_declared_call d (said.Fence set collect) = is_declared_set d set
is_declared_call d (said.Get job rank key) = has_proc d job rank
is_declared_call d (said.GetNow job rank key) = has_proc d job rank
is_declared_call d (said.Publish name value) = true
is_declared_call d (said.Lookup name) = true
is_declared_call d (said.LookupWait name) = true
is_declared_call d (said.Unpublish name) = true
is_declared_call d said.UnpublishAll = true

-- whether the caller is in the set of its fence
abbrev pub is_with_caller : Declared → Started → said.Call → Bool
is_with_caller d caller (said.Put scope key value) = true
is_with_caller d caller said.Commit = true
is_with_caller d caller (said.Fence set collect) = is_in d caller.job set caller
is_with_caller d caller (said.Get job rank key) = true
is_with_caller d caller (said.GetNow job rank key) = true
is_with_caller d caller (said.Publish name value) = true
is_with_caller d caller (said.Lookup name) = true
is_with_caller d caller (said.LookupWait name) = true
is_with_caller d caller (said.Unpublish name) = true
is_with_caller d caller said.UnpublishAll = true

-- the fault of a call of this process, on this line
abbrev pub call_fault : Declared → Started → ℕ → said.Call → Option Fault
call_fault d caller line call =
    if not (is_declared_call d call) then Some (UnknownName line)
    else if not (is_with_caller d caller call) then Some (NotMember line)
    else None

abbrev pub first_of : Option Fault → Option Fault → Option Fault
first_of None f = f
first_of (Some e) f = Some e

-- the first fault of these calls of a process
abbrev pub fault_in : Declared → Started → List (ℕ × said.Call) → Option Fault
fault_in d caller [] = None
fault_in d caller (c ∷ cs) = first_of (call_fault d caller c.0 c.1) (fault_in d caller cs)

-- the first fault of the calls of these processes
abbrev pub first_fault : Declared → List Started → Option Fault
first_fault d [] = None
first_fault d (p ∷ ps) = first_of (fault_in d p p.calls) (first_fault d ps)

-- the keys that a call names: those of a put and a get
abbrev pub keys_in : said.Call → List Name
keys_in (said.Put scope key value) = key ∷ []
keys_in said.Commit = []
keys_in (said.Fence set collect) = []
keys_in (said.Get job rank key) = key ∷ []
keys_in (said.GetNow job rank key) = key ∷ []
keys_in (said.Publish name value) = []
keys_in (said.Lookup name) = []
keys_in (said.LookupWait name) = []
keys_in (said.Unpublish name) = []
keys_in said.UnpublishAll = []

-- the names: those of a publish, a lookup and an unpublish
abbrev pub names_in : said.Call → List Name
names_in (said.Put scope key value) = []
names_in said.Commit = []
names_in (said.Fence set collect) = []
names_in (said.Get job rank key) = []
names_in (said.GetNow job rank key) = []
names_in (said.Publish name value) = name ∷ []
names_in (said.Lookup name) = name ∷ []
names_in (said.LookupWait name) = name ∷ []
names_in (said.Unpublish name) = name ∷ []
names_in said.UnpublishAll = []

-- the values: those of a put and a publish
abbrev pub values_in : said.Call → List (List ℕ)
values_in (said.Put scope key value) = value ∷ []
values_in said.Commit = []
values_in (said.Fence set collect) = []
values_in (said.Get job rank key) = []
values_in (said.GetNow job rank key) = []
values_in (said.Publish name value) = value ∷ []
values_in (said.Lookup name) = []
values_in (said.LookupWait name) = []
values_in (said.Unpublish name) = []
values_in said.UnpublishAll = []

-- the sets, by their members: that of a fence, called by a process of this job
abbrev pub sets_in : Declared → ℕ → said.Call → List (List ℕ)
sets_in d own_job (said.Put scope key value) = []
sets_in d own_job said.Commit = []
sets_in d own_job (said.Fence set collect) = set_members d own_job set ∷ []
sets_in d own_job (said.Get job rank key) = []
sets_in d own_job (said.GetNow job rank key) = []
sets_in d own_job (said.Publish name value) = []
sets_in d own_job (said.Lookup name) = []
sets_in d own_job (said.LookupWait name) = []
sets_in d own_job (said.Unpublish name) = []
sets_in d own_job said.UnpublishAll = []

-- what all calls of these processes name, call by call, where f says what one call of a process of a job names
abbrev pub in_calls : (ℕ → said.Call → List (List ℕ)) → List Started → List (List ℕ)
in_calls f processes = flat_map (λ p. flat_map (λ c. f p.job c.1) p.calls) processes

-- each once, in the order in which they are first seen
abbrev pub first_seen : List (List ℕ) → List (List ℕ)
first_seen [] = []
first_seen (t ∷ ts) = t ∷ filter (λ u. not (bytes_eq t u)) (first_seen ts)

-- what calls name
pub record Seen : Type 0 where
  pub keys : List Name
  pub names : List Name
  pub values : List (List ℕ)
  pub sets : List (List ℕ)

abbrev pub seen_in : Declared → Seen
seen_in d = record {
  keys = first_seen (in_calls (λ job. keys_in) d.processes);
  names = first_seen (in_calls (λ job. names_in) d.processes);
  values = first_seen (in_calls (λ job. values_in) d.processes);
  sets = first_seen (in_calls (sets_in d) d.processes);
}

-- a call of a process of this job, with numbers for what it names
abbrev pub numbered : Declared → Seen → ℕ → said.Call → Call
numbered d s own_job (said.Put scope key value) = Put scope (number_or_count s.keys key) (number_or_count s.values value)
numbered d s own_job said.Commit = Commit
numbered d s own_job (said.Fence set collect) = Fence (number_or_count s.sets (set_members d own_job set)) collect
numbered d s own_job (said.Get job rank key) = Get (record { number = proc_number d job rank }) (number_or_count s.keys key)
numbered d s own_job (said.GetNow job rank key) = GetNow (record { number = proc_number d job rank }) (number_or_count s.keys key)
numbered d s own_job (said.Publish name value) = Publish (number_or_count s.names name) (number_or_count s.values value)
numbered d s own_job (said.Lookup name) = Lookup (number_or_count s.names name)
numbered d s own_job (said.LookupWait name) = LookupWait (number_or_count s.names name)
numbered d s own_job (said.Unpublish name) = Unpublish (number_or_count s.names name)
numbered d s own_job said.UnpublishAll = UnpublishAll

abbrev pub process_of : Declared → Seen → Started → Process
process_of d s p = record { job = p.job; rank = p.rank; node = p.node; calls = map (λ c. numbered d s p.job c.1) p.calls }

abbrev pub scripts_with : Declared → Seen → Scripts
scripts_with d s = record {
  version = d.version;
  nodes = d.nodes;
  jobs = d.jobs;
  keys = s.keys;
  names = s.names;
  values = s.values;
  sets = s.sets;
  processes = map (process_of d s) d.processes;
  keeps = d.keeps;
}

abbrev pub scripts_of : Declared → Scripts
scripts_of d = scripts_with d (seen_in d)

-- the second pass: each call by all that is declared
abbrev pub unless_fault : Declared → Option Fault → Result Scripts Fault
unless_fault d None = Ok (scripts_of d)
unless_fault d (Some f) = Err f

abbrev pub second_pass : Declared → Result Scripts Fault
second_pass d = unless_fault d (first_fault d d.processes)

-- a text within the limit
abbrev pub ReadsShort : Size → List ℕ → Result Scripts Fault → Type 0
ReadsShort size bytes r = (q : Result Declared Fault) × FirstPass size (statements bytes) (length (lines_of bytes)) q
    × MatchResult q (λ d. r ≡ second_pass d) (λ f. r ≡ Err f)

-- the text reads as these scripts, or its first fault is this one
abbrev pub Reads : Size → List ℕ → Result Scripts Fault → Type 0
Reads size bytes r =
    ((file_bytes size < length bytes) × (r ≡ Err (TooLong (count_by (λ b. b == 10) (take (file_bytes size) bytes) + 1))))
    ⊎ ((length bytes ≤ file_bytes size) × ReadsShort size bytes r)

-- a text reads as one value
abbrev pub ReadsOnce : Type 0
ReadsOnce = (size : Size) (bytes : List ℕ) (r s : Result Scripts Fault) → Reads size bytes r → Reads size bytes s → r ≡ s
