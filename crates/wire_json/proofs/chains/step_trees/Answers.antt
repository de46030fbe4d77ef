use Rattle.std.proofs.Common.{◌++◌, ap, map}
use Rattle.std.proofs.lemmas.List.{drop_all}
use Rattle.serde_json.specs.View.{view}
use Rattle.wire_json.specs.ChainTrees.{step_data}
use Rattle.wire_json.proofs.Left.{next_made, all_made}
use Rattle.wire_json.proofs.chains.step_trees.Goals as goal

pub loop-step-init : goal.loop-step-init
loop-step-init c = ap (λ values. map view values ++ map (step_data c.args.scripts.now) c.args.steps.now) c.new-values.ensures.items

pub loop-step-preserved : goal.loop-step-preserved
loop-step-preserved c =
    next_made view (step_data c.args.scripts.now) c.args.steps.now c.loop-step.step-index _ _ _ _ _ c.loop-step-test.true c.loop-step.invariant c.in_ok-step_tree.ensures c.in_ok-push.ensures.items

pub returns : goal.returns
returns c = all_made _ _ _ (ap (map (step_data c.args.scripts.now)) (drop_all c.loop-step.step-index c.args.steps.now c.loop-step-test.false)) c.loop-step.invariant
