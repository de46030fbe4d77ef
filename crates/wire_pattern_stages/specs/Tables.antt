-- The tables that keys are told by, and the keys.
use Rattle.std.specs.Prelude.{ℕ, List, Option, Some, None, Vec, map, slice_get}
use Rattle.std.specs.declared.alloc.Global.{Global}
use Rattle.wire_runs.specs.Plan.{Plan, Event, kind}
use Rattle.wire_scripts.specs.Planned.{plan_of}
use Rattle.wire_size_laws.specs.Stages as laws
use Rattle.wire_size_laws.specs.Stages.{is_leave, key_in}
use Rattle.wire_pattern_stages.specs.declared.labels.Label.{Label}
use Rattle.wire_pattern_stages.specs.declared.instance.View.{View}
use Rattle.wire_pattern_stages.specs.Views.{label_by, stages_by}

-- the label of an event, in rows of them
abbrev pub label_in : ℕ → Option (Vec Label Global) → Option laws.Label
label_in at None = None
label_in at (Some row) = slice_get (map label_by row.items) at

-- the key of an event
abbrev pub key_seen : laws.Stages → List ℕ → List (Vec Label Global) → Plan → Event → laws.StageKey
key_seen stages roles labels plan x =
    key_in stages (slice_get roles x.proc) (label_in x.at (slice_get labels x.proc)) (is_leave (kind plan x)) x.proc

abbrev pub view_key : View → Event → laws.StageKey
view_key view = key_seen (stages_by view.stages.now) view.roles.now view.labels.now (plan_of view.plan.now)

abbrev pub rows_by : List (Vec Label Global) → List (List laws.Label)
rows_by rows = map (λ row. map label_by row.items) rows
