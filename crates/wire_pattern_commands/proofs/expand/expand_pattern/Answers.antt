use Rattle.std.proofs.Common.{inl, refl}
use Rattle.wire_command.proofs.Handed.{handed_on, same_error}
use Rattle.wire_pattern_commands.proofs.Expanded.{file_stops, no_read_expanding}
use Rattle.wire_pattern_commands.proofs.expand.expand_pattern.Goals as goal

pub returns-in_err-pattern-clause-err : goal.returns-in_err-pattern-clause-err
returns-in_err-pattern-clause-err g c =
    handed_on c.from_residual.result c.in_err-pattern.field-0.0 _ c.from_residual.ensures.1
    (inl (file_stops c.args.asked (g.R.Source.coming c.args.reader.now) c.in_err-pattern.field-0.0 c.in_err-pattern.ensures.err, refl))

pub returns-in_err-text-clause-read_failed : goal.returns-in_err-text-clause-read_failed
returns-in_err-text-clause-read_failed g c is =
    absurd (no_read_expanding c.in_ok-pattern.pattern c.args.asked _ c.in_err-text.ensures.err (same_error _ _ _ c.from_residual-in_err-text.ensures.1 is))
