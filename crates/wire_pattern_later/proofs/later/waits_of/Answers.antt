use Rattle.std.proofs.Common.{◌∙◌, ap}
use Rattle.wire_types.specs.Texts.{lists_of}
use Rattle.wire_instances.specs.Views.{cast_by}
use Rattle.wire_pattern_waits.specs.Stops.{StuckAt}
use Rattle.wire_pattern_later.proofs.Grown.{noted_first}
use Rattle.wire_pattern_later.proofs.later.waits_of.Goals as goal

pub returns-clause-ok : goal.returns-clause-ok
returns-clause-ok c = λ role line.
    noted_first _ _ (StuckAt c.args.pattern.now (cast_by c.args.cast.now) c.args.instance.scripts role line) (c.new-noted.ensures role line)
    (c.in_ok-note_waits.ensures c.args.instance.scripts (ap lists_of c.as_slice.ensures.value ∙ c.in_ok-outcome.ensures.ok) role line)
