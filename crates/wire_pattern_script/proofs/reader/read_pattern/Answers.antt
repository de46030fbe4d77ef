use Rattle.std.proofs.Common.{◌∙◌, ◌+◌, ◌<◌, ◌==◌, ap, subst, inl, inr, Err, length, take, count_by}
use Rattle.wire_types.specs.declared.Fault.TheVariants.{TooLong}
use Rattle.wire_pattern_script.proofs.reader.read_pattern.Goals as goal

pub returns-then-bytes-most-clause-err : goal.returns-then-bytes-most-clause-err
returns-then-bytes-most-clause-err c =
    let is = c.file_bytes-most.ensures in
    inr (inl (
      subst (λ k. k < length c.args.bytes.now) is c.if-bytes-most.true,
      ap (λ n. Err (TooLong n)) c.line_past.ensures ∙ ap (λ k. Err (TooLong (count_by (λ b. b == 10) (take k c.args.bytes.now) + 1))) is,
    ))
