use Rattle.std.proofs.Common.{◌∙◌, ap, refl, length, false, get_or}
use Rattle.std.proofs.lemmas.Option.{slice_get_read}
use Rattle.wire_pattern_waits.proofs.Flags.{row_says, no_row}
use Rattle.wire_pattern_waits.proofs.line_set.has_flag.Goals as goal

pub returns-in_default : goal.returns-in_default
returns-in_default c = no_row c.args.rows.now c.args.role c.args.line c.in_default.ensures.lookup.3

pub returns : goal.returns
returns c =
    let rows = c.args.rows.now in
    let lookup = c.in-Some.ensures.lookup in
    row_says rows c.args.role c.args.line c.in-Some.row.now c.flag_at.result
    (slice_get_read rows (length rows) c.args.role c.in-Some.row.now refl lookup.3.0 lookup.1)
    (c.flag_at.ensures ∙ ap (λ flags. get_or flags c.args.line false) c.as_slice.ensures.value)
