-- What the values of the code say.
use Rattle.std.specs.Prelude.{ℕ, Bool, true, false, Option, Some, None, Vec, slice_get}
use Rattle.std.specs.declared.alloc.Global.{Global}
use Rattle.wire_size_laws.specs.Stages as laws
use Rattle.wire_pattern_stages.specs.declared.stage.By.{By}
use Rattle.wire_pattern_stages.specs.declared.stage.By.TheVariants.{Nothing, Caller, Other, Lower, Higher}
use Rattle.wire_pattern_stages.specs.declared.stage.Stage.{Stage}
use Rattle.wire_pattern_stages.specs.declared.stage.LineStages.{LineStages}
use Rattle.wire_pattern_stages.specs.declared.stage.Stages.{Stages}
use Rattle.wire_pattern_stages.specs.declared.key.Key.{Key}
use Rattle.wire_pattern_stages.specs.declared.labels.Label.{Label}

abbrev pub by_by : By → laws.By
by_by Nothing = laws.ByNone
by_by Caller = laws.ByCaller
by_by Other = laws.ByOther
by_by Lower = laws.ByLower
by_by Higher = laws.ByHigher

abbrev pub stage_by : Stage → laws.Stage
stage_by s = record { stage = s.stage; first = by_by s.first; second = by_by s.second; position = s.position }

abbrev pub key_by : Key → laws.StageKey
key_by k = record { one = k.one; two = k.two; three = k.three; four = k.four }

abbrev pub label_by : Label → laws.Label
label_by l = record { step = l.step; line = l.line; each = l.each }

abbrev pub no_stage : Stage
no_stage = record { stage = 0; first = Nothing; second = Nothing; position = 0 }

-- the stages of a line, those of one that isn't there too
abbrev pub of_line : Option LineStages → LineStages
of_line None = record { enter = no_stage; leave = no_stage }
of_line (Some stages) = stages

abbrev pub of_step : ℕ → Option (Vec LineStages Global) → LineStages
of_step line None = of_line None
of_step line (Some lines) = of_line (slice_get lines.items line)

abbrev pub of_role : ℕ → ℕ → Option (Vec (Vec LineStages Global) Global) → LineStages
of_role step line None = of_line None
of_role step line (Some steps) = of_step line (slice_get steps.items step)

abbrev pub side : Bool → LineStages → Stage
side true stages = stages.leave
side false stages = stages.enter

abbrev pub stages_by : Stages → laws.Stages
stages_by s role step line leave = stage_by (side leave (of_role step line (slice_get s.rows.items role)))
