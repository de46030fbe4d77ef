use Rattle.std.proofs.Common.{◌∙◌, ap}
use Rattle.std.specs.List.{list_all}
use Rattle.wire_types.specs.Outcome.{Ends}
use Rattle.wire_types.specs.Texts.{lists_of}
use Rattle.wire_pattern_stages.specs.Succeeding.{succeeds}
use Rattle.wire_pattern_commands.proofs.succeeding.plan_succeeds.Goals as goal

pub returns-clause-ok : goal.returns-clause-ok
returns-clause-ok c =
    c.rows_succeed.ensures
    ∙ ap (list_all (list_all succeeds)) (ap lists_of c.as_slice.ensures.value ∙ ap (λ (e : Ends). e.rows) c.in_ok-outcome.ensures.ok)
