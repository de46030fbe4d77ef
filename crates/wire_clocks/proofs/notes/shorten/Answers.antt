use Rattle.std.proofs.Common.{◌≡◌, ◌∙◌, ◌<◌, ◌^◌, ℕ, sym, ap, subst}
use Rattle.std.specs.Prelude.{true}
use Rattle.std.proofs.lemmas.Bool.{and_parts}
use Rattle.std.proofs.lemmas.Result.{IfOk-weaker}
use Rattle.wire_clocks.specs.Rows.{tree_says, IsTree}
use Rattle.wire_clocks.specs.Notes.{most_below, note_at, is_near, clock_number, clock_stands, IsTopOf}
use Rattle.wire_clocks.proofs.Noting.{none_at, tree_stands, tree_number, tree_top, low_number}
use Rattle.wire_clocks.proofs.notes.shorten.Goals as goal

pub returns-then-takes_note-clause-says : goal.returns-then-takes_note-clause-says
returns-then-takes_note-clause-says c = λ q low.
    let rows = c.args.rows.now.items in
    let notes = c.args.notes.now in
    let height = c.args.levels in
    let takes = sym (c.takes_note.ensures rows height c.requires.root) ∙ c.if-takes_note.true in
    sym (low_number rows notes height q most_below c.args.root (and_parts (is_near c.args.process (note_at notes c.args.root)) (clock_stands rows notes height most_below c.args.root) takes).1)

pub returns-clause-stands : goal.returns-clause-stands
returns-clause-stands c =
    let new = c.flatten.new.rows.items in
    let notes = c.args.notes.now in
    let height = c.args.levels in
    IfOk-weaker c.root_of.result (IsTopOf c.in_ok-tree.tree) (λ r. clock_stands new notes height 15 r ≡ true)
    (λ r top. tree_stands new notes height 15 r (none_at notes r top.even) ∙ tree_top new height r top.even (subst (IsTree new height) (sym top.half) c.in_ok-tree.ensures.tree)) c.root_of.ensures

pub returns-clause-says : goal.returns-clause-says
returns-clause-says c =
    let old = c.args.rows.now.items in
    let new = c.flatten.new.rows.items in
    let notes = c.args.notes.now in
    let height = c.args.levels in
    IfOk-weaker c.root_of.result (IsTopOf c.in_ok-tree.tree) (λ r. (q : ℕ) → q < 16 ^ height → clock_number new notes height 15 r q ≡ clock_number old notes height 16 c.args.root q)
    (λ r top. λ q low. tree_number new notes height 15 r q (none_at notes r top.even) ∙ ap (λ t. tree_says new height t q) top.half ∙ c.in_ok-tree.ensures.says q low) c.root_of.ensures
