use Rattle.wire_pattern_script.proofs.Fit.{first_fit}
use Rattle.wire_pattern_script.proofs.reader.read_short.Goals as goal

pub pattern_of-requires : goal.pattern_of-requires
pattern_of-requires c = first_fit _ _ _ c.in_ok-draft.ensures.ok
