-- An instance of a pattern, as the lines of a plan.
use Rattle.std.specs.Prelude.{◌≡◌, ◌<◌, ◌≤◌, ◌^◌, nat_lt, sum_by, ℕ, zero, suc, ◌==◌, ◌&&◌, Bool, true, List, [], ◌∷◌, ◌++◌, map, flat_map, codes, decimal}
use Rattle.std.specs.Prelude.{Option, Some, None, slice_get, slice_index_or, replicate, take, count_by, length, if◌then◌else◌}
use Rattle.std.specs.List.{join_with_byte, list_all}
use Rattle.wire_types.specs.Said as said
use Rattle.wire_types.specs.Said.{spelled_proc}
use Rattle.wire_types.specs.declared.Version.TheVariants.{Two}
use Rattle.wire_scripts.specs.Canonical.{keep_said, line_text}
use Rattle.wire_runs.specs.Patterns as plan
use Rattle.wire_runs.specs.Patterns.{Who, Turns, who, group, turns}
use Rattle.wire_pattern.specs.Pattern.{Indexed, Item, One, Group, Job, Call, Put, Commit, Fence, Get, GetNow, Publish}
use Rattle.wire_pattern.specs.Pattern.{Lookup, LookupWait, Unpublish, UnpublishAll, Line, Step, Once, Loop, Role, JobLine, Pattern}
use Rattle.wire_pattern.specs.Planned.{steps_in, single_in}

-- a turn of a loop of `for some`: the caller, the number of the step in its script, and the process that the turn is for
pub record Turn : Type 0 where
  pub caller : ℕ
  pub step : ℕ
  pub each : ℕ

abbrev pub is_turn : Turn → Turn → Bool
is_turn a b = (a.caller == b.caller) && ((a.step == b.step) && (a.each == b.each))

-- sizes: how many processes each role has. chosen: turns of loops of `for some`, and whether they are taken; those that
-- aren't listed are. nodes: of each process the number of its node, below node_count
pub record Cast : Type 0 where
  pub sizes : List ℕ
  pub chosen : List (Turn × Bool)
  pub node_count : ℕ
  pub nodes : List ℕ

abbrev pub process_count : Cast → ℕ
process_count cast = sum_by (λ (size : ℕ). size) cast.sizes

-- a cast of the pattern: each role has a size, that of a single role is 1, each process a node. The least number of a
-- role isn't asked for
pub record IsCast (p : Pattern) (cast : Cast) : Type 0 where
  pub sized : length cast.sizes ≡ length p.roles
  pub only : (role : ℕ) → single_in (slice_get p.roles role) ≡ true → slice_get cast.sizes role ≡ Some 1
  pub placed : length cast.nodes ≡ process_count cast
  pub below : list_all (λ n. nat_lt n cast.node_count) cast.nodes ≡ true
  pub few : process_count cast < 2 ^ 31
  pub few_nodes : cast.node_count < 2 ^ 31

-- each role has its least number of processes at least
abbrev pub HaveLeast : List Role → List ℕ → Type 0
HaveLeast roles sizes = (r : ℕ) (role : Role) (size : ℕ) → slice_get roles r ≡ Some role → slice_get sizes r ≡ Some size → role.least ≤ size

abbrev pub is_taken : List (Turn × Bool) → Turn → Bool
is_taken [] turn = true
is_taken (c ∷ chosen) turn = if is_turn c.0 turn then c.1 else is_taken chosen turn

-- the role of each process, where the first of these sizes is of the role number n
abbrev pub roles_from : ℕ → List ℕ → List ℕ
roles_from n [] = []
roles_from n (size ∷ sizes) = replicate size n ++ roles_from (suc n) sizes

abbrev pub cast_of : Cast → plan.Cast
cast_of cast = record {
  roles = roles_from 0 cast.sizes;
  chosen = λ p i e. is_taken cast.chosen (record { caller = p; step = i; each = e });
  nodes = λ p. slice_index_or cast.nodes p 0;
}

abbrev pub job_in : Option Role → ℕ
job_in None = 0
job_in (Some role) = role.job

-- the jobs of the processes
abbrev pub process_jobs : Pattern → Cast → List ℕ
process_jobs p cast = map (λ role. job_in (slice_get p.roles role)) (cast_of cast).roles

-- the number of a process's job, and its rank there
abbrev pub job_at : Pattern → Cast → ℕ → ℕ
job_at p cast v = slice_index_or (process_jobs p cast) v 0

abbrev pub rank_at : Pattern → Cast → ℕ → ℕ
rank_at p cast v = count_by (λ job. job == job_at p cast v) (take v (process_jobs p cast))

abbrev pub job_name : Pattern → ℕ → List ℕ
job_name p job = slice_index_or (map (λ j. j.name) p.jobs) job []

abbrev pub process_text : Pattern → Cast → ℕ → List ℕ
process_text p cast v = spelled_proc (job_name p (job_at p cast v)) (rank_at p cast v)

-- the text of a key or a name for the caller v, in the turn for e: the base, and in brackets its processes
abbrev pub indexed_text : List ℕ → List (List ℕ) → List ℕ
indexed_text base [] = base
indexed_text base (p ∷ ps) = base ++ 91 ∷ (join_with_byte 44 (p ∷ ps) ++ 93 ∷ [])

abbrev pub word_text : Pattern → Cast → ℕ → ℕ → Indexed → List ℕ
word_text p cast v e word = indexed_text word.base (map (λ w. process_text p cast (who (cast_of cast) v e w)) word.indices)

abbrev pub process_item : Pattern → Cast → ℕ → said.Item
process_item p cast v = said.One (job_name p (job_at p cast v)) (rank_at p cast v)

-- what an item says: of a role each process
abbrev pub items_said : Pattern → Cast → ℕ → ℕ → Item → List said.Item
items_said p cast v e (One w) = process_item p cast (who (cast_of cast) v e w) ∷ []
items_said p cast v e (Group role) = map (process_item p cast) (group role (cast_of cast).roles)
items_said p cast v e (Job job) = said.Every (job_name p job) ∷ []

-- the job and the rank of the process that a line of the caller v names, in the turn for e
abbrev pub owner_job : Pattern → Cast → ℕ → ℕ → Who → List ℕ
owner_job p cast v e owner = job_name p (job_at p cast (who (cast_of cast) v e owner))

abbrev pub owner_rank : Pattern → Cast → ℕ → ℕ → Who → ℕ
owner_rank p cast v e owner = rank_at p cast (who (cast_of cast) v e owner)

-- what a line says for the caller v, in the turn for e
abbrev pub call_said : Pattern → Cast → ℕ → ℕ → Call → said.Call
call_said p cast v e (Put scope key value) = said.Put scope (word_text p cast v e key) value
call_said p cast v e Commit = said.Commit
call_said p cast v e (Fence items collect) = said.Fence (said.Listed (flat_map (items_said p cast v e) items)) collect
call_said p cast v e (Get owner key) = said.Get (owner_job p cast v e owner) (owner_rank p cast v e owner) (word_text p cast v e key)
call_said p cast v e (GetNow owner key) = said.GetNow (owner_job p cast v e owner) (owner_rank p cast v e owner) (word_text p cast v e key)
call_said p cast v e (Publish name value) = said.Publish (word_text p cast v e name) value
call_said p cast v e (Lookup name) = said.Lookup (word_text p cast v e name)
call_said p cast v e (LookupWait name) = said.LookupWait (word_text p cast v e name)
call_said p cast v e (Unpublish name) = said.Unpublish (word_text p cast v e name)
call_said p cast v e UnpublishAll = said.UnpublishAll

-- the lines of a loop, in these turns
abbrev pub turns_said : Pattern → Cast → ℕ → List Line → List ℕ → List said.Call
turns_said p cast v lines [] = []
turns_said p cast v lines (e ∷ es) = map (λ l. call_said p cast v e l.call) lines ++ turns_said p cast v lines es

abbrev pub step_said : Pattern → Cast → ℕ → ℕ → Step → List said.Call
step_said p cast v i (Once line) = call_said p cast v v line.call ∷ []
step_said p cast v i (Loop number role mode lines) = turns_said p cast v lines (turns (cast_of cast) v i role mode)

-- the calls of v, from step number i on
abbrev pub steps_said : Pattern → Cast → ℕ → ℕ → List Step → List said.Call
steps_said p cast v i [] = []
steps_said p cast v i (step ∷ steps) = step_said p cast v i step ++ steps_said p cast v (suc i) steps

abbrev pub node_name : ℕ → List ℕ
node_name n = codes "n" ++ decimal n

-- so many nodes, the first of them with the number n
abbrev pub nodes_said : ℕ → ℕ → List said.Said
nodes_said n zero = []
nodes_said n (suc count) = said.Node (node_name n) ∷ nodes_said (suc n) count

-- a process: its node, and its calls
abbrev pub process_said : Pattern → Cast → ℕ → ℕ → List said.Said
process_said p cast v role =
    said.Rank (node_name ((cast_of cast).nodes v)) ∷ map said.Calls (steps_said p cast v 0 (steps_in (slice_get p.roles role)))

-- the processes of a job, where the first of these roles is of the process v
abbrev pub members_said : Pattern → Cast → ℕ → ℕ → List ℕ → List said.Said
members_said p cast job v [] = []
members_said p cast job v (role ∷ roles) =
    (if job_in (slice_get p.roles role) == job then process_said p cast v role else []) ++ members_said p cast job (suc v) roles

-- the jobs, the first of these with the number n
abbrev pub jobs_said : Pattern → Cast → ℕ → List (List ℕ) → List said.Said
jobs_said p cast n [] = []
jobs_said p cast n (name ∷ names) = said.Job name ∷ (members_said p cast n 0 (cast_of cast).roles ++ jobs_said p cast (suc n) names)

-- the header of version 2, whether it keeps, the nodes, the jobs
abbrev pub instance_said : Pattern → Cast → List said.Said
instance_said p cast =
    said.Header Two ∷ (keep_said p.keeps ++ (nodes_said 0 cast.node_count
    ++ jobs_said p cast 0 (map (λ j. j.name) p.jobs)))

abbrev pub instance_text : Pattern → Cast → List ℕ
instance_text p cast = flat_map line_text (instance_said p cast)

-- for each line of the text the line of the pattern's file that it comes from: of a call its own, of a job and a rank
-- that of the job and the role, of a node that of the role of its first process. The header has 0

abbrev pub step_lines : Cast → ℕ → ℕ → Step → List ℕ
step_lines cast v i (Once line) = line.number ∷ []
step_lines cast v i (Loop number role mode lines) = flat_map (λ (e : ℕ). map (λ (l : Line). l.number) lines) (turns (cast_of cast) v i role mode)

abbrev pub steps_lines : Cast → ℕ → ℕ → List Step → List ℕ
steps_lines cast v i [] = []
steps_lines cast v i (step ∷ steps) = step_lines cast v i step ++ steps_lines cast v (suc i) steps

abbrev pub number_in : Option Role → ℕ
number_in None = 0
number_in (Some role) = role.number

abbrev pub members_lines : Pattern → Cast → ℕ → ℕ → List ℕ → List ℕ
members_lines p cast job v [] = []
members_lines p cast job v (role ∷ roles) =
    (if job_in (slice_get p.roles role) == job then number_in (slice_get p.roles role) ∷ steps_lines cast v 0 (steps_in (slice_get p.roles role)) else [])
    ++ members_lines p cast job (suc v) roles

abbrev pub jobs_lines : Pattern → Cast → ℕ → List JobLine → List ℕ
jobs_lines p cast n [] = []
jobs_lines p cast n (job ∷ jobs) = job.number ∷ (members_lines p cast n 0 (cast_of cast).roles ++ jobs_lines p cast (suc n) jobs)

-- the line of the role of the first process on the node n, where these are the roles and the nodes of processes; 0 where
-- no process is on it
abbrev pub node_line : Pattern → ℕ → List ℕ → List ℕ → ℕ
node_line p n (role ∷ roles) (node ∷ nodes) = if node == n then number_in (slice_get p.roles role) else node_line p n roles nodes
node_line p n _ _ = 0

-- the lines of so many nodes, the first of them with the number n
abbrev pub nodes_lines : Pattern → Cast → ℕ → ℕ → List ℕ
nodes_lines p cast n zero = []
nodes_lines p cast n (suc count) = node_line p n (cast_of cast).roles cast.nodes ∷ nodes_lines p cast (suc n) count

abbrev pub instance_lines : Pattern → Cast → List ℕ
instance_lines p cast =
    0 ∷ ((if p.keeps then 0 ∷ [] else []) ++ (nodes_lines p cast 0 cast.node_count ++ jobs_lines p cast 0 p.jobs))
