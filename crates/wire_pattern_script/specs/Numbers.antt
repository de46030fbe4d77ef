-- The pattern that is declared: jobs and roles with numbers for their names. A name that isn't declared has the number of
-- all.
use Rattle.std.specs.Prelude.{ℕ, Bool, true, false, List, [], ◌∷◌, map, flat_map, Option, Some, None, slice_get, if◌then◌else◌}
use Rattle.wire_runs.specs.Patterns as plan
use Rattle.wire_reader.specs.FirstPass.{Name, number_or_count}
use Rattle.wire_pattern_lines.specs.Said as said
use Rattle.wire_pattern.specs.Pattern.{Indexed, Item, One, Group, Job, Call, Put, Commit, Fence, Get, GetNow, Publish}
use Rattle.wire_pattern.specs.Pattern.{Lookup, LookupWait, Unpublish, UnpublishAll, Line, Step, Once, Loop, Role, Pattern}
use Rattle.wire_pattern_script.specs.FirstPass.{LoopLines, StepLines, OnceLine, LoopOf, RoleLines, Declared, job_names, role_names}

abbrev pub role_number : Declared → Name → ℕ
role_number d name = number_or_count (role_names d) name

abbrev pub who_of : Declared → said.Proc → plan.Who
who_of d said.Caller = plan.Self
who_of d said.Each = plan.Each
who_of d (said.Named role) = plan.Only (role_number d role)

abbrev pub indexed_of : Declared → said.Key → Indexed
indexed_of d key = record { base = key.base; indices = map (who_of d) key.indices }

-- whether a role is of one process
abbrev pub is_single_lines : Option RoleLines → Bool
is_single_lines None = false
is_single_lines (Some role) = role.single

-- a role in a set: its one process, or all of a group
abbrev pub role_item : Declared → ℕ → Item
role_item d role = if is_single_lines (slice_get d.roles role) then One (plan.Only role) else Group role

abbrev pub item_of : Declared → said.Item → Item
item_of d (said.One said.Caller) = One plan.Self
item_of d (said.One said.Each) = One plan.Each
item_of d (said.One (said.Named role)) = role_item d (role_number d role)
item_of d (said.Every job) = Job (number_or_count (job_names d) job)

-- the items of a set that a process of this job names
abbrev pub items_of : Declared → ℕ → said.Set → List Item
items_of d own_job said.Own = Job own_job ∷ []
items_of d own_job (said.Listed items) = map (item_of d) items

abbrev pub call_of : Declared → ℕ → said.Call → Call
call_of d own_job (said.Put scope key value) = Put scope (indexed_of d key) value
call_of d own_job said.Commit = Commit
call_of d own_job (said.Fence set collect) = Fence (items_of d own_job set) collect
call_of d own_job (said.Get owner key) = Get (who_of d owner) (indexed_of d key)
call_of d own_job (said.GetNow owner key) = GetNow (who_of d owner) (indexed_of d key)
call_of d own_job (said.Publish name value) = Publish (indexed_of d name) value
call_of d own_job (said.Lookup name) = Lookup (indexed_of d name)
call_of d own_job (said.LookupWait name) = LookupWait (indexed_of d name)
call_of d own_job (said.Unpublish name) = Unpublish (indexed_of d name)
call_of d own_job said.UnpublishAll = UnpublishAll

-- a get of either kind
abbrev pub get_of : Declared → (is_now : Bool) → said.Proc → said.Key → Call
get_of d true owner key = GetNow (who_of d owner) (indexed_of d key)
get_of d false owner key = Get (who_of d owner) (indexed_of d key)

abbrev pub line_of : Declared → ℕ → ℕ × said.Call → Line
line_of d own_job line = record { number = line.0; call = call_of d own_job line.1 }

-- the loop over one of its roles
abbrev pub loop_of : Declared → ℕ → LoopLines → Name → Step
loop_of d own_job l role = Loop l.number (role_number d role) l.turns (map (line_of d own_job) l.lines)

-- a loop over several roles is a loop over each, in the order of the list
abbrev pub steps_of : Declared → ℕ → StepLines → List Step
steps_of d own_job (OnceLine line) = Once (line_of d own_job line) ∷ []
steps_of d own_job (LoopOf l) = map (loop_of d own_job l) l.roles

abbrev pub role_of : Declared → RoleLines → Role
role_of d role = record {
  job = role.job;
  name = role.name;
  single = role.single;
  least = role.least;
  number = role.number;
  steps = flat_map (steps_of d role.job) role.steps;
}

abbrev pub pattern_of : Declared → Pattern
pattern_of d = record { keeps = d.keeps; jobs = d.jobs; roles = map (role_of d) d.roles }
