use Rattle.wire_pattern_stages.specs.Views.{stages_by}
use Rattle.wire_pattern_stages.proofs.cutoff.see_with.Goals as goal

pub returns-clause-kept : goal.returns-clause-kept
returns-clause-kept c = λ kept. (stages_by c.or_none-stages.result, c.in_ok-seen.ensures.kept kept)
