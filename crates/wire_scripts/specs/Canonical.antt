-- The canonical text of scripts.
use Rattle.std.specs.Prelude.{ℕ, ◌+◌, ◌==◌, Bool, true, false, List, [], ◌∷◌, ◌++◌, map, filter, flat_map}
use Rattle.std.specs.Prelude.{slice_index_or, if◌then◌else◌}
use Rattle.std.specs.List.{list_all, join_with_byte}
use Rattle.std.specs.Str.{bytes_eq as same_members}
use Rattle.wire_runs.specs.Fences.{is_member}
use Rattle.wire_types.specs.declared.Call.{Call}
use Rattle.wire_types.specs.declared.Call.TheVariants.{Put, Commit, Fence, Get, GetNow}
use Rattle.wire_types.specs.declared.Call.TheVariants.{Publish, Lookup, LookupWait, Unpublish, UnpublishAll}
use Rattle.wire_types.specs.Said as said
use Rattle.wire_scripts.specs.Scripts.{Process, Scripts, text_at, set_at}

-- the process of a number
abbrev pub process_at : Scripts → ℕ → Process
process_at s p = slice_index_or s.processes p (record { job = 0; rank = 0; node = 0; calls = [] })

-- its rank, and the name of its job
abbrev pub rank_at : Scripts → ℕ → ℕ
rank_at s p = (process_at s p).rank

abbrev pub job_of : Scripts → ℕ → List ℕ
job_of s p = text_at s.jobs (process_at s p).job

-- the text of a process: the name of its job, a colon and its rank
abbrev pub process_text : Scripts → Process → List ℕ
process_text s p = said.spelled_proc (text_at s.jobs p.job) p.rank

-- the processes of a job by their numbers, where the first of all has the number n
abbrev pub members_from : ℕ → ℕ → List Process → List ℕ
members_from n job [] = []
members_from n job (p ∷ ps) =
    if p.job == job then n ∷ members_from (n + 1) job ps else members_from (n + 1) job ps

abbrev pub job_members : List Process → ℕ → List ℕ
job_members processes job = members_from 0 job processes

-- whether all processes of a job are in a set
abbrev pub is_whole : List Process → List ℕ → ℕ → Bool
is_whole processes set job = list_all (is_member set) (job_members processes job)

-- a process alone, or all of its job, which is said once, where the process has rank 0
abbrev pub process_items : Scripts → Bool → ℕ → List said.Item
process_items s whole p =
    if whole then (if rank_at s p == 0 then said.Every (job_of s p) ∷ [] else [])
    else said.One (job_of s p) (rank_at s p) ∷ []

-- what is said of a process of a set
abbrev pub member_items : Scripts → List ℕ → ℕ → List said.Item
member_items s set p = process_items s (is_whole s.processes set (process_at s p).job) p

-- what is said of all of them, in process order
abbrev pub set_items : Scripts → List ℕ → List said.Item
set_items s set = flat_map (member_items s set) set

-- what a process of a job says of a set: its own job, or else the items
abbrev pub set_said : Scripts → ℕ → List ℕ → said.Set
set_said s job set =
    if same_members set (job_members s.processes job) then said.Own else said.Listed (set_items s set)

-- items, with a comma after each: for the contract of the code that writes them, no part of the canonical text
abbrev pub items_text : List said.Item → List ℕ
items_text items = flat_map (λ i. said.spelled_item i ++ 44 ∷ []) items

-- what a call line says of a call, which a process of a job makes
abbrev pub call_said : Scripts → ℕ → Call → said.Call
call_said s job (Put scope key value) = said.Put scope (text_at s.keys key) (text_at s.values value)
call_said s job Commit = said.Commit
call_said s job (Fence set collect) = said.Fence (set_said s job (set_at s.sets set)) collect
call_said s job (Get owner key) = said.Get (job_of s owner.number) (rank_at s owner.number) (text_at s.keys key)
call_said s job (GetNow owner key) = said.GetNow (job_of s owner.number) (rank_at s owner.number) (text_at s.keys key)
call_said s job (Publish name value) = said.Publish (text_at s.names name) (text_at s.values value)
call_said s job (Lookup name) = said.Lookup (text_at s.names name)
call_said s job (LookupWait name) = said.LookupWait (text_at s.names name)
call_said s job (Unpublish name) = said.Unpublish (text_at s.names name)
call_said s job UnpublishAll = said.UnpublishAll

abbrev pub process_said : Scripts → Process → List said.Said
process_said s p = said.Rank (text_at s.nodes p.node) ∷ map (λ c. said.Calls (call_said s p.job c)) p.calls

-- a job, with its number and its name, and its processes
abbrev pub job_said : Scripts → ℕ → List ℕ → List said.Said
job_said s n job = said.Job job ∷ flat_map (process_said s) (filter (λ p. p.job == n) s.processes)

-- the jobs, the first of them with the number n
abbrev pub jobs_said : Scripts → ℕ → List (List ℕ) → List said.Said
jobs_said s n [] = []
jobs_said s n (job ∷ jobs) = job_said s n job ++ jobs_said s (n + 1) jobs

-- the lines of the nodes and the jobs
abbrev pub body_said : Scripts → List said.Said
body_said s = map (λ n. said.Node n) s.nodes ++ jobs_said s 0 s.jobs

-- the line of scripts that keep what gets bring
abbrev pub keep_said : Bool → List said.Said
keep_said true = said.Keep ∷ []
keep_said false = []

-- the header, whether they keep, the nodes, the jobs
abbrev pub lines_said : Scripts → List said.Said
lines_said s = said.Header s.version ∷ (keep_said s.keeps ++ body_said s)

-- words with a space between each two, and a line feed
abbrev pub words_text : List (List ℕ) → List ℕ
words_text words = join_with_byte 32 words ++ 10 ∷ []

abbrev pub line_text : said.Said → List ℕ
line_text l = words_text (said.first_word l ∷ said.other_words l)

abbrev pub canonical : Scripts → List ℕ
canonical s = flat_map line_text (lines_said s)
