-- The calls and the events of a process in the plan are those of its script.
use Rattle.std.proofs.Common.{◌≡◌, ◌∙◌, ap, sym, refl, ℕ, length, map, Option, Some, None, option_map, slice_get}
use Rattle.std.proofs.lemmas.List.{length-map}
use Rattle.std.proofs.lemmas.Option.{slice_get-map}
use Rattle.wire_runs.specs.Plan.{kinds, kinds_of, process_kinds}
use Rattle.wire_runs.specs.Ends.{calls_of, process_calls}
use Rattle.wire_scripts.specs.Scripts.{Scripts, Process, calls_in}
use Rattle.wire_scripts.specs.Planned.{plan_of, planned_call, planned_process}

pub calls_are : (s : Scripts) (p : ℕ) → calls_of (plan_of s) p ≡ map (planned_call s) (calls_in (slice_get s.processes p))
calls_are s p = ap process_calls (slice_get-map (planned_process s) s.processes p) ∙ go (slice_get s.processes p)
  where
    go : (o : Option Process) → process_calls (option_map (planned_process s) o) ≡ map (planned_call s) (calls_in o)
    go None = refl
    go (Some process) = refl

pub as_many_planned : (s : Scripts) (p : ℕ) → length (calls_in (slice_get s.processes p)) ≡ length (calls_of (plan_of s) p)
as_many_planned s p = sym (ap length (calls_are s p) ∙ length-map (calls_in (slice_get s.processes p)) (planned_call s))

pub events_are : (s : Scripts) (p : ℕ) → kinds (plan_of s) p ≡ kinds_of (map (planned_call s) (calls_in (slice_get s.processes p)))
unfolding kinds
events_are s p = ap process_kinds (slice_get-map (planned_process s) s.processes p) ∙ go (slice_get s.processes p)
  where
    go : (o : Option Process) → process_kinds (option_map (planned_process s) o) ≡ kinds_of (map (planned_call s) (calls_in o))
    go None = refl
    go (Some process) = refl
