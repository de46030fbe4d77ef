-- What the values of the code say.
use Rattle.std.specs.Prelude.{map}
use Rattle.wire_runs.specs.Patterns as plan
use Rattle.wire_pattern.specs.Pattern as spec
use Rattle.wire_pattern.specs.declared.call.Who.{Who}
use Rattle.wire_pattern.specs.declared.call.Who.TheVariants.{Only, Caller, Each}
use Rattle.wire_pattern.specs.declared.call.Indexed.{Indexed}
use Rattle.wire_pattern.specs.declared.call.Item.{Item}
use Rattle.wire_pattern.specs.declared.call.Item.TheVariants.{One, Group, Job}
use Rattle.wire_pattern.specs.declared.call.Call.{Call}
use Rattle.wire_pattern.specs.declared.call.Call.TheVariants.{Put, Commit, Fence, Get, GetNow, Publish, Lookup}
use Rattle.wire_pattern.specs.declared.call.Call.TheVariants.{LookupWait, Unpublish, UnpublishAll}
use Rattle.wire_pattern.specs.declared.step.Line.{Line}
use Rattle.wire_pattern.specs.declared.step.Turns.{Turns}
use Rattle.wire_pattern.specs.declared.step.Turns.TheVariants.{InOrder, Round, Chosen}
use Rattle.wire_pattern.specs.declared.step.Step.{Step}
use Rattle.wire_pattern.specs.declared.step.Step.TheVariants.{Once, Loop}
use Rattle.wire_pattern.specs.declared.pattern.Role.{Role}
use Rattle.wire_pattern.specs.declared.pattern.Job.{Job as CodeJob}

abbrev pub who_by : Who → plan.Who
who_by (Only role) = plan.Only role
who_by Caller = plan.Self
who_by Each = plan.Each

abbrev pub indexed_by : Indexed → spec.Indexed
indexed_by word = record { base = word.base.items; indices = map who_by word.indices.items }

abbrev pub view_item : Item → spec.Item
view_item (One w) = spec.One (who_by w)
view_item (Group role) = spec.Group role
view_item (Job job) = spec.Job job

abbrev pub view_call : Call → spec.Call
view_call (Put scope key value) = spec.Put scope (indexed_by key) value.items
view_call Commit = spec.Commit
view_call (Fence items collect) = spec.Fence (map view_item items.items) collect
view_call (Get owner key) = spec.Get (who_by owner) (indexed_by key)
view_call (GetNow owner key) = spec.GetNow (who_by owner) (indexed_by key)
view_call (Publish name value) = spec.Publish (indexed_by name) value.items
view_call (Lookup name) = spec.Lookup (indexed_by name)
view_call (LookupWait name) = spec.LookupWait (indexed_by name)
view_call (Unpublish name) = spec.Unpublish (indexed_by name)
view_call UnpublishAll = spec.UnpublishAll

abbrev pub line_by : Line → spec.Line
line_by line = record { number = line.number; call = view_call line.call }

abbrev pub turns_by : Turns → plan.Turns
turns_by InOrder = plan.InOrder
turns_by Round = plan.Round
turns_by Chosen = plan.Chosen

abbrev pub step_by : Step → spec.Step
step_by (Once line) = spec.Once (line_by line)
step_by (Loop number group turns lines) = spec.Loop number group (turns_by turns) (map line_by lines.items)

abbrev pub role_by : Role → spec.Role
role_by role = record {
  job = role.job;
  name = role.name.items;
  single = role.single;
  least = role.least;
  number = role.number;
  steps = map step_by role.steps.items;
}

abbrev pub job_by : CodeJob → spec.JobLine
job_by job = record { name = job.name.items; number = job.number }
