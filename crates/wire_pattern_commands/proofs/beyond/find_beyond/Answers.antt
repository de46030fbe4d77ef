use Rattle.std.proofs.Common.{◌∙◌, sym, subst}
use Rattle.wire_pattern_commands.specs.Found.{IsFoundBeyond}
use Rattle.wire_pattern_commands.proofs.Emptied.{none_there}
use Rattle.wire_pattern_commands.proofs.beyond.find_beyond.Goals as goal

pub returns-clause-ok : goal.returns-clause-ok
returns-clause-ok c =
    subst (λ ls. IsFoundBeyond c.args.pattern.now ls c.in_ok-beyond.beyond)
    (sym (sym c.as_slice.ensures.value ∙ none_there c.as_slice.result.now (sym c.is_empty.ensures ∙ c.if-not-is_empty.false))) c.in_ok-beyond.ensures.ok
