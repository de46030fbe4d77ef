use Rattle.std.proofs.Common.{◌≡◌, ◌∙◌, ◌<◌, ◌^◌, ℕ, sym, ap, arith}
use Rattle.std.proofs.lemmas.Result.{IfOk-weaker}
use Rattle.wire_clocks.specs.Notes.{raised_at, rising_tree_says, clock_number}
use Rattle.wire_clocks.proofs.Noting.{end_stands, end_number, top_tree, before_stands, next_left, next_number}
use Rattle.wire_clocks.proofs.notes.+gather_notes.Goals as goal

pub returns-in_default-clause-rising : goal.returns-in_default-clause-rising
returns-in_default-clause-rising t c =
    let rows = c.args.rows.now.items in
    let height = c.args.levels in
    let top = sym (end_stands rows c.args.notes.now height c.args.left c.args.root (sym c.next_note.ensures ∙ c.in_default.is)) ∙ c.requires.root in
    c.begin_rising.ensures.rising rows height (top_tree rows c.requires.zero height c.args.root top)

pub returns-in_default-clause-says : goal.returns-in_default-clause-says
returns-in_default-clause-says t c = λ q low.
    let rows = c.args.rows.now.items in
    c.begin_rising.ensures.says rows c.args.levels q
    ∙ sym (end_number rows c.args.notes.now c.args.levels c.args.left c.args.root q (sym c.next_note.ensures ∙ c.in_default.is))

pub gather_notes-requires : goal.gather_notes-requires
gather_notes-requires t c =
    let is = sym c.next_note.ensures ∙ c.in-Some.is in
    let left = next_left c.args.notes.now c.args.left c.args.root c.in-Some.note is in
    let stands = before_stands c.args.rows.now.items c.args.notes.now c.args.levels c.args.left c.args.root c.in-Some.note is c.requires.root in
    (omega arith, (c.requires.levels, (c.requires.high, (c.requires.zero, stands.1))))

pub raise_at-requires-clause-process : goal.raise_at-requires-clause-process
raise_at-requires-clause-process t c =
    (before_stands c.args.rows.now.items c.args.notes.now c.args.levels c.args.left c.args.root c.in-Some.note (sym c.next_note.ensures ∙ c.in-Some.is) c.requires.root).0

pub returns-clause-says : goal.returns-clause-says
returns-clause-says t c =
    let old = c.args.rows.now.items in
    let now = c.gather_notes.new.rows.items in
    let new = c.raise_at.new.rows.items in
    let notes = c.args.notes.now in
    let height = c.args.levels in
    let note = c.in-Some.note in
    IfOk-weaker c.raise_at.result (λ r. (q : ℕ) → q < 16 ^ height → rising_tree_says new height r q ≡ raised_at note.process note.number q (rising_tree_says now height c.in_ok-rising.rising q))
    (λ r. (q : ℕ) → q < 16 ^ height → rising_tree_says new height r q ≡ clock_number old notes height c.args.left c.args.root q)
    (λ r each. λ q low. each q low ∙ ap (raised_at note.process note.number q) (c.in_ok-rising.ensures.says q low)
    ∙ sym (next_number old notes height c.args.left c.args.root q note (sym c.next_note.ensures ∙ c.in-Some.is))) c.raise_at.ensures.says
