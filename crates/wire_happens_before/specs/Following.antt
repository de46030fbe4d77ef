-- Events that wait for nothing but the event before them: for the contracts of private functions.
use Rattle.std.specs.Prelude.{◌≡◌, ℕ, List, true, Option, Some, map}
use Rattle.wire_runs.specs.Plan.{Plan, Event, Kind, kind, kinds}
use Rattle.wire_runs.specs.Order.{Edge, may_come}
use Rattle.wire_runs.specs.Step.{name_after}
use Rattle.wire_scripts.specs.Scripts.{Scripts}
use Rattle.wire_scripts.specs.Planned.{plan_of}
use Rattle.wire_plan.specs.Index.{previous_at, previous_of}
use Rattle.wire_plan.specs.Kinds.{kind_of}
use Rattle.wire_plan.specs.declared.kind.Kind.{Kind as CodeKind}
use Rattle.wire_happens_before.specs.Clocks.{Clocks, marked_count}
use Rattle.wire_happens_before.specs.Marking.{root_before}

-- in every plan an event of this kind may come, its one source is the event before it in its process, and it changes
-- no name
pub record OnlyFollows (k : Kind) : Type 0 where
  pub comes : (plan : Plan) (y : Event) → may_come plan y (Some k) ≡ true
  pub alone : (plan : Plan) (x y : Event) → kind plan y ≡ Some k → Edge plan x y → previous_of y ≡ Some x
  pub keeps : (y : Event) (name : ℕ) (published : Option Event) → name_after published y (Some k) name ≡ published

-- these are what the process's events are
abbrev pub AreKindsOf : Scripts → ℕ → List CodeKind → Type 0
AreKindsOf s p list = map (kind_of s.sets) list ≡ kinds (plan_of s) p

-- the root of the base of the process's last marked event, that of zeros where none is marked
abbrev pub last_root : Clocks → ℕ → ℕ
last_root clocks p = root_before clocks (previous_at p (marked_count clocks p))
