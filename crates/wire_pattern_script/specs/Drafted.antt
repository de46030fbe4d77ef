-- What a draft declares.
use Rattle.std.specs.Prelude.{ℕ, map, option_map}
use Rattle.wire_types.specs.Texts.{texts_of}
use Rattle.wire_pattern.specs.Pattern.{JobLine}
use Rattle.wire_pattern.specs.Views.{turns_by}
use Rattle.wire_pattern_lines.specs.Said.{Call}
use Rattle.wire_pattern_lines.specs.Views.{view_call}
use Rattle.wire_pattern_script.specs.FirstPass as pass
use Rattle.wire_pattern_script.specs.declared.draft.LocatedCall.{LocatedCall}
use Rattle.wire_pattern_script.specs.declared.draft.LoopDraft.{LoopDraft}
use Rattle.wire_pattern_script.specs.declared.draft.StepDraft.{StepDraft}
use Rattle.wire_pattern_script.specs.declared.draft.StepDraft.TheVariants.{Once, Loop}
use Rattle.wire_pattern_script.specs.declared.draft.RoleDraft.{RoleDraft}
use Rattle.wire_pattern_script.specs.declared.draft.JobDraft.{JobDraft}
use Rattle.wire_pattern_script.specs.declared.draft.Draft.{Draft}

abbrev pub placed_of : LocatedCall → ℕ × Call
placed_of p = (p.number, view_call p.call)

abbrev pub loop_of : LoopDraft → pass.LoopLines
loop_of l = record { number = l.number; turns = turns_by l.turns; roles = texts_of l.roles.items; lines = map placed_of l.lines.items }

abbrev pub step_of : StepDraft → pass.StepLines
step_of (Once line) = pass.OnceLine (placed_of line)
step_of (Loop l) = pass.LoopOf (loop_of l)

abbrev pub role_of : RoleDraft → pass.RoleLines
role_of r = record { job = r.job; name = r.name.now; single = r.single; least = r.least; number = r.number; steps = map step_of r.steps.items }

abbrev pub job_of : JobDraft → JobLine
job_of j = record { name = j.name.now; number = j.number }

abbrev pub declared_of : Draft → pass.Declared
declared_of d = record {
  keeps = d.keeps;
  jobs = map job_of d.jobs.items;
  roles = map role_of d.roles.items;
  begun = d.begun;
  open_loop = option_map loop_of d.open_loop;
}
