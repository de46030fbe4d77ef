use Rattle.std.proofs.Common.{◌∙◌, ◌-◌, ap, sym, max}
use Rattle.wire_clocks.specs.Notes.{clock_number}
use Rattle.wire_clocks.proofs.Noting.{went_down, end_number}
use Rattle.wire_clocks.proofs.notes.number_at.Goals as goal

pub down-preserved : goal.down-preserved
down-preserved c =
    let rows = c.args.rows.now in
    let notes = c.args.notes.now in
    let note = c.in-Some.note in
    let process = c.args.process in
    ap (max (clock_number rows notes c.args.levels (c.down.left - 1) note.below process)) c.raise_number-least.ensures
    ∙ went_down rows notes c.args.levels c.down.left c.down.at process c.down.least note (sym c.next_note.ensures ∙ c.in-Some.is) ∙ c.down.invariant

pub returns : goal.returns
returns c =
    let rows = c.args.rows.now in
    let tree = end_number rows c.args.notes.now c.args.levels c.down.left c.down.at c.args.process (sym c.next_note.ensures ∙ c.in_default.is) in
    c.max.ensures ∙ ap (λ n. max n c.down.least) (c.number.ensures ∙ sym tree) ∙ c.down.invariant
