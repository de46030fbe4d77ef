use Rattle.std.proofs.Common.{◌≡◌, ◌++◌, map, drop}
use Rattle.serde_json.specs.View.{view}
use Rattle.wire_json.specs.ChainTrees.{step_data}
use Rattle.wire_json.proofs.chains.step_trees.Given as goal

-- the trees that are made, and those of the steps that are left, are all trees
abbrev pub invariant-loop-step : goal.invariant-loop-step
invariant-loop-step l = map view l.values.items ++ map (step_data l.scripts) (drop l.step-index l.steps) ≡ map (step_data l.scripts) l.steps
