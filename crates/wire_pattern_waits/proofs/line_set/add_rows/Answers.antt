use Rattle.std.proofs.Common.{◌∙◌, ◌+◌, ◌∷◌, [], ap, length}
use Rattle.std.proofs.lemmas.List.{length-append}
use Rattle.wire_pattern_waits.proofs.Flags.{one_row}
use Rattle.wire_pattern_waits.proofs.line_set.add_rows.Goals as goal

pub loop-row-preserved : goal.loop-row-preserved
loop-row-preserved c =
    let rows = c.loop-row.rows.items in (
      ap length c.in_ok-push.ensures.items ∙ length-append rows (c.new.result ∷ []) ∙ ap (λ n. n + 1) c.loop-row.invariant.0,
      one_row c.args.rows.now.items rows c.push.new.self.items c.new.result c.in_ok-push.ensures.items c.new.ensures.items c.loop-row.invariant.1,
    )
