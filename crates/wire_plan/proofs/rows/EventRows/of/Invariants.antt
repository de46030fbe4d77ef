use Rattle.std.proofs.Common.{◌≡◌, ◌++◌, length, map, drop, flat_map}
use Rattle.wire_runs.specs.Plan.{kinds_of}
use Rattle.wire_scripts.specs.Planned.{planned_call}
use Rattle.wire_plan.specs.Kinds.{kind_of, kinds_planned, calls_planned, calls_from, firsts_planned, firsts_from}
use Rattle.wire_plan.proofs.rows.EventRows.of.Given as goal

abbrev pub invariant-loop-process : goal.invariant-loop-process
invariant-loop-process l = record {
  kinds : kinds_planned l.scripts ≡ map (kind_of l.scripts.sets) l.rows.kinds.items
      ++ flat_map (λ p. kinds_of (map (planned_call l.scripts) p.calls)) (drop l.process-index l.processes);
  calls : calls_planned l.scripts ≡ l.rows.calls.items ++ flat_map (λ p. calls_from 0 (map (planned_call l.scripts) p.calls)) (drop l.process-index l.processes);
  firsts : firsts_planned l.scripts ≡ l.rows.firsts.items
      ++ firsts_from (λ p. length (kinds_of (map (planned_call l.scripts) p.calls))) (length l.rows.kinds.items) (drop l.process-index l.processes);
}
