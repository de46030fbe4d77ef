use Rattle.std.proofs.Common.{◌≡◌, ◌∙◌, ◌<◌, ◌==◌, ◌^◌, ℕ, max, sym, ap, subst}
use Rattle.std.proofs.lemmas.Result.{IfOk-weaker}
use Rattle.std.specs.Prelude.{IfOk, true, if◌then◌else◌}
use Rattle.wire_clocks.specs.declared.notes.Note.{Note}
use Rattle.wire_clocks.specs.Notes.{raised_at, clock_number, clock_stands, IsNotedClock}
use Rattle.wire_clocks.specs.ClockTrees.{says, IsRoot, Holds}
use Rattle.wire_clocks.specs.Trees.{clocks_of}
use Rattle.wire_clocks.proofs.Noting.{noted_stands, noted_number}
use Rattle.wire_clocks.proofs.Standing.{clock_given, root_of_clock, trees_kept, given_stay, given_keep}
use Rattle.wire_clocks.proofs.Made.{noted_says}
use Rattle.wire_clocks.proofs.trees.ClockTrees.raise_by_note.Goals as goal

pub shorten-requires-clause-root : goal.shorten-requires-clause-root
shorten-requires-clause-root c =
    subst (λ notes. clock_stands c.self.inside.rows.items notes c.self.inside.levels 16 c.args.root ≡ true) (sym c.deref.ensures.value)
    (clock_given c.self.inside.rows.items c.self.inside.notes.items c.self.inside.levels c.args.root c.args.self.now c.self.view_is c.requires.root)

pub returns-in_err-below-clause-keeps : goal.returns-in_err-below-clause-keeps
returns-in_err-below-clause-keeps c =
    given_stay c.self.inside.rows.items c.shorten.new.rows.items c.self.inside.notes.items c.self.inside.levels c.args.self.now c.self.invariant c.self.view_is c.in_err-below.ensures.keeps

pub returns-clause-keeps : goal.returns-clause-keeps
returns-clause-keeps c =
    given_keep c.self.inside.rows.items c.shorten.new.rows.items c.self.inside.notes.items c.add_note.new.notes.items c.self.inside.levels c.args.self.now c.self.invariant c.self.view_is
    c.in_ok-below.ensures.keeps c.add_note.ensures.keeps

pub returns-clause-root : goal.returns-clause-root
returns-clause-root c =
    let new = c.shorten.new.rows.items in
    let ns = c.self.inside.notes.items in
    let ns' = c.add_note.new.notes.items in
    let height = c.self.inside.levels in
    let note : Note = record { below = c.in_ok-below.below; process = c.args.process; number = c.args.number } in
    let are = trees_kept c.self.inside.rows.items new height c.self.invariant c.in_ok-below.ensures.keeps in
    let low = subst (λ clocks. Holds clocks c.args.process) (sym c.self.view_is) c.requires.process in
    let stands = subst (λ notes. clock_stands new notes height 15 c.in_ok-below.below ≡ true) c.deref.ensures.value c.in_ok-below.ensures.stands in
    IfOk-weaker c.add_note.result (IsNotedClock ns ns' note) (λ r. IsRoot (clocks_of new ns' height) r)
    (λ r noted. root_of_clock new ns' height r are (noted_stands new ns ns' height r note are.zero c.add_note.ensures.keeps noted low stands)) c.add_note.ensures.noted

pub returns-clause-says : goal.returns-clause-says
returns-clause-says c =
    let old = c.self.inside.rows.items in
    let new = c.shorten.new.rows.items in
    let ns = c.self.inside.notes.items in
    let ns' = c.add_note.new.notes.items in
    let height = c.self.inside.levels in
    let root = c.args.root in
    let process = c.args.process in
    let number = c.args.number in
    let below = c.in_ok-below.below in
    let note : Note = record { below = c.in_ok-below.below; process = c.args.process; number = c.args.number } in
    let are = trees_kept c.self.inside.rows.items new height c.self.invariant c.in_ok-below.ensures.keeps in
    let low = subst (λ clocks. Holds clocks c.args.process) (sym c.self.view_is) c.requires.process in
    let stands = subst (λ notes. clock_stands new notes height 15 c.in_ok-below.below ≡ true) c.deref.ensures.value c.in_ok-below.ensures.stands in
    let each : (q : ℕ) → q < 16 ^ height → clock_number new ns height 15 below q ≡ clock_number old ns height 16 root q = λ q inside.
    subst (λ notes. clock_number new notes height 15 below q ≡ clock_number old notes height 16 root q) c.deref.ensures.value (c.in_ok-below.ensures.says q inside) in
    subst (λ clocks. IfOk c.add_note.result (λ r. (q : ℕ) → says (clocks_of new ns' height) r q ≡ (if q == process then max (says clocks root q) number else says clocks root q))) c.self.view_is
    (IfOk-weaker c.add_note.result (IsNotedClock ns ns' note) (λ r. (q : ℕ) → says (clocks_of new ns' height) r q
    ≡ (if q == process then max (says (clocks_of old ns height) root q) number else says (clocks_of old ns height) root q))
    (λ r noted. noted_says old new ns ns' height root r process number c.self.invariant are low
    (λ q inside. noted_number new ns ns' height r q note are.zero c.add_note.ensures.keeps noted stands ∙ ap (raised_at process number q) (each q inside))) c.add_note.ensures.noted)
