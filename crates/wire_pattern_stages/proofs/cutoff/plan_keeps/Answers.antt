use Rattle.std.proofs.Common.{◌∙◌, ap, sym}
use Rattle.wire_scripts.specs.Planned.{plan_of}
use Rattle.wire_instances.specs.Views.{cast_by}
use Rattle.wire_pattern_stages.specs.Lines.{rows_labels}
use Rattle.wire_pattern_stages.specs.Views.{stages_by}
use Rattle.wire_pattern_stages.specs.Tables.{rows_by}
use Rattle.wire_pattern_stages.proofs.Kept.{keeps}
use Rattle.wire_pattern_stages.proofs.cutoff.plan_keeps.Goals as goal

pub returns : goal.returns
returns c = λ kept.
    keeps c.args.pattern.now (cast_by c.args.cast.now) (stages_by c.args.stages.now) c.as_slice-2.result.now c.as_slice-3.result.now (plan_of c.args.plan.now)
    (c.as_slice-2.ensures.value ∙ c.in_ok-roles.ensures.roles)
    (ap rows_by c.as_slice-3.ensures.value ∙ c.in_ok-labels.ensures
    ∙ ap (rows_labels c.args.pattern.now (cast_by c.args.cast.now) 0) (c.as_slice.ensures.value ∙ sym c.as_slice-2.ensures.value))
    (c.is_plan_right.ensures kept)
