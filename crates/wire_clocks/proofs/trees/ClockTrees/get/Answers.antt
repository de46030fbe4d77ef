use Rattle.std.proofs.Common.{◌≡◌, ◌∙◌, ◌^◌, sym, ap, subst}
use Rattle.std.specs.Prelude.{nat_lt}
use Rattle.std.proofs.lemmas.Bool.{cond-true, lt-ltb}
use Rattle.wire_clocks.specs.Notes.{clock_number}
use Rattle.wire_clocks.specs.ClockTrees.{says}
use Rattle.wire_clocks.proofs.Standing.{clock_says}
use Rattle.wire_clocks.proofs.trees.ClockTrees.get.Goals as goal

pub returns-then-is_within : goal.returns-then-is_within
returns-then-is_within c =
    let rows = c.self.inside.rows.items in
    let notes = c.self.inside.notes.items in
    let height = c.self.inside.levels in
    let root = c.args.root in
    let process = c.args.process in
    let said : c.number_at.result ≡ clock_number rows notes height 16 root process = c.number_at.ensures
    ∙ ap (λ these. clock_number these c.deref-then-is_within.result.now height 16 root process) c.deref.ensures.value ∙ ap (λ these. clock_number rows these height 16 root process) c.deref-then-is_within.ensures.value in
    subst (λ clocks. c.number_at.result ≡ says clocks root process) c.self.view_is
    (said ∙ sym (cond-true (nat_lt process (16 ^ height)) (clock_number rows notes height 16 root process) 0 (lt-ltb process (16 ^ height) (c.is_within.ensures.0 c.if-is_within.true)))
    ∙ sym (clock_says rows notes height root process c.self.invariant))
