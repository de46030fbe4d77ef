use Rattle.std.proofs.Common.{◌∙◌, sym}
use Rattle.wire_clocks.proofs.Noting.{none_low, some_low, none_left}
use Rattle.wire_clocks.proofs.notes.+is_low.Goals as goal

pub returns-in-None : goal.returns-in-None
returns-in-None t c = λ rows height stands.
    sym (none_low rows c.args.notes.now height c.args.left c.args.root (sym c.note_at.ensures ∙ c.in-None.is) stands)

pub returns-then-left-gt0 : goal.returns-then-left-gt0
returns-then-left-gt0 t c = λ rows height stands.
    some_low rows c.args.notes.now height c.args.left c.args.root c.in-Some.note c.is_low.result (sym c.note_at.ensures ∙ c.in-Some.is) c.if-left-gt0.true (c.is_low.ensures rows height) stands

pub returns-else-left-gt0 : goal.returns-else-left-gt0
returns-else-left-gt0 t c = λ rows height stands.
    none_left rows c.args.notes.now height c.args.left c.args.root c.in-Some.note (sym c.note_at.ensures ∙ c.in-Some.is) c.if-left-gt0.false
