use Rattle.std.proofs.Common.{◌≡◌, ◌∙◌, ap, sym, subst, ◌∷◌, [], length, refl, append_assoc, append-nil, arith}
use Rattle.std.specs.Vec.Iter.{into_iter_items}
use Rattle.std.proofs.lemmas.List.{nil_from_length}
use Rattle.wire_anywhere.specs.Adding.{AddsPlacementFindings, IsInSome}
use Rattle.wire_anywhere.proofs.Growing.{appended}
use Rattle.wire_anywhere.proofs.Pieces.{some_more, none_more}
use Rattle.wire_anywhere.proofs.key_races.add_pieces.Goals as goal

pub loop-piece-init : goal.loop-piece-init
loop-piece-init c =
    let given = c.into_iter-piece-iterator.ensures.into_iter_gives in
    let items = ap length given.0 in
    let size = given.1 in
    let fits = c.args.pieces.ok.0 in
    (refl, omega (arith, items, size, fits), λ plan. none_more plan c.args.found.now)

pub loop-piece-preserved : goal.loop-piece-preserved
loop-piece-preserved c =
    let at = c.loop-piece in
    let x = c.in-Some.piece in
    let steps : into_iter_items at.piece-iterator ≡ x ∷ into_iter_items c.next.new.self = c.in-Some.ensures.steps.0 in
    let split = rw steps at at.invariant.0 in (
      append_assoc at.yielded (x ∷ []) _ ∙ split,
      let was = at.invariant.1 in
          let gone = c.in-Some.ensures.steps.1 in
          let short = ap length steps in
          omega arith,
      λ plan. some_more plan at.yielded x c.args.found.now at.found c.append.new.self (at.invariant.2 plan) (appended plan at.found c.append.new.self x c.in_ok-append.ensures),
    )

pub returns : goal.returns
returns c = λ plan.
    let at = c.loop-piece in
    let none = c.in-None.ensures.steps in
    let empty : into_iter_items at.piece-iterator ≡ [] = nil_from_length _ (sym at.invariant.1 ∙ none.0) in
    let given = c.into_iter-piece-iterator.ensures.into_iter_gives.0 in
    let every = sym (append-nil at.yielded) ∙ rw empty at at.invariant.0 ∙ given in
    subst (λ l. AddsPlacementFindings plan c.args.found.now at.found (IsInSome plan l)) every (at.invariant.2 plan)
