use Rattle.std.proofs.Common.{◌≡◌, ◌++◌, ◌∷◌, [], length, map, drop}
use Rattle.wire_runs.specs.Plan.{kinds_of}
use Rattle.wire_scripts.specs.Planned.{planned_call}
use Rattle.wire_plan.specs.Kinds.{kind_of, calls_from}
use Rattle.wire_plan.proofs.rows.EventRows.add_process.Given as goal

abbrev pub invariant-loop-call : goal.invariant-loop-call
invariant-loop-call l = record {
  kinds : map (kind_of l.scripts.sets) l.fn.self.kinds.items ++ kinds_of (map (planned_call l.scripts) l.calls)
      ≡ map (kind_of l.scripts.sets) l.self.kinds.items ++ kinds_of (map (planned_call l.scripts) (drop l.call-index l.calls));
  calls : l.fn.self.calls.items ++ calls_from 0 (map (planned_call l.scripts) l.calls) ≡ l.self.calls.items ++ calls_from l.number (map (planned_call l.scripts) (drop l.call-index l.calls));
  firsts : l.self.firsts.items ≡ l.fn.self.firsts.items ++ length l.fn.self.kinds.items ∷ [];
  number : l.number ≡ l.call-index;
}
