-- How many events scripts that were read have at most.
use Rattle.std.proofs.Common.{ℕ, ◌*◌, ◌≤◌, List, [], ◌∷◌, map, length, arith}
use Rattle.std.specs.Prelude.{sum_by}
use Rattle.std.proofs.lemmas.List.{length-map}
use Rattle.std.proofs.lemmas.List.Sums.{sum_by-cons}
use Rattle.wire_runs.specs.Plan.{Process, kinds_of, event_total}
use Rattle.wire_plan.proofs.Planning.{events_few}
use Rattle.wire_scripts.specs.Scripts.{Scripts}
use Rattle.wire_scripts.specs.Planned.{planned_call, planned_process, plan_of}
use Rattle.wire_reader.specs.declared.Limits.{Limits}
use Rattle.wire_reader.specs.FirstPass.{Started, Declared}
use Rattle.wire_reader.specs.Reads.{Seen, seen_in, numbered, process_of, scripts_of}
use Rattle.wire_reader.specs.Within.{started_calls, IsWithin}

abbrev events_in : Process → ℕ
events_in process = length (kinds_of process.calls)

all_events : (d : Declared) (s : Scripts) (seen : Seen) (ps : List Started) → sum_by events_in (map (planned_process s) (map (process_of d seen) ps)) ≤ 2 * started_calls ps
all_events d s seen [] = omega arith
all_events d s seen (p ∷ ps) =
    let calls = map (λ c. numbered d seen p.job c.1) p.calls in
    omega (
      arith,
      all_events d s seen ps,
      sum_by-cons events_in (planned_process s (process_of d seen p)) (map (planned_process s) (map (process_of d seen) ps)),
      events_few (map (planned_call s) calls),
      length-map calls (planned_call s),
      length-map p.calls (λ c. numbered d seen p.job c.1),
    )

-- two for each call at most
pub few_events : (l : Limits) (d : Declared) → IsWithin l d → event_total (plan_of (scripts_of d)) ≤ 2 * l.calls
few_events l d w =
    let counted = w.counted in
    let few = w.few_calls in
    omega (arith, all_events d (scripts_of d) (seen_in d) d.processes, counted, few)
