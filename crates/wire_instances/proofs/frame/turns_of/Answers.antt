use Rattle.std.proofs.Common.{◌≡◌, ◌∙◌, ap}
use Rattle.std.proofs.lemmas.Result.{IfOk-weaker}
use Rattle.wire_runs.specs.Patterns as plan
use Rattle.wire_pattern.specs.Instances.{cast_of}
use Rattle.wire_pattern.specs.Views.{turns_by}
use Rattle.wire_instances.specs.Tables.{Scene}
use Rattle.wire_instances.proofs.frame.turns_of.Goals as goal

pub returns : goal.returns
returns c =
    let round = c.args.round in
    IfOk-weaker c.turns.result _ _
    (λ v e. e ∙ ap (λ (f : Scene). plan.turns (cast_of f.cast) round.caller round.step c.args.group (turns_by round.turns)) c.in_ok-frame.ensures)
    c.turns.ensures.turns
