use Rattle.std.proofs.Common.{◌≡◌, ◌∙◌, ap, sym, subst, ◌+◌, ◌∷◌, [], Some, slice_get, length, refl, append_assoc, append-nil, arith}
use Rattle.std.specs.Vec.Iter.{into_iter_items}
use Rattle.std.proofs.lemmas.List.{nil_from_length}
use Rattle.wire_runs.proofs.Lists.{slice_get-append_right}
use Rattle.wire_races.specs.Pieces.{IsInSome, AreAllFound}
use Rattle.wire_races.specs.Adding.{AddsFindings}
use Rattle.wire_races.proofs.Adding.{appended}
use Rattle.wire_races.proofs.Together.{some_more, none_more}
use Rattle.wire_races.proofs.search_pieces.add_pieces.Goals as goal

pub loop-piece-init : goal.loop-piece-init
loop-piece-init c =
    let given = c.into_iter-piece-iterator.ensures.into_iter_gives in
    let items = ap length given.0 in
    let size = given.1 in
    let fits = c.args.pieces.ok.0 in
    (refl, omega (arith, items, size, fits), λ plan found all. none_more plan c.args.found.now found)

pub loop-piece-preserved : goal.loop-piece-preserved
loop-piece-preserved c =
    let at = c.loop-piece in
    let x = c.in-Some.piece in
    let steps : into_iter_items at.piece-iterator ≡ x ∷ into_iter_items c.next.new.self = c.in-Some.ensures.steps.0 in
    let split = rw steps at at.invariant.0 in (
      append_assoc at.yielded (x ∷ []) _ ∙ split,
      let was = at.invariant.1 in
          let gone = c.in-Some.ensures.steps.1 in
          let short = ap length steps in
          omega arith,
      λ plan found all.
          let before = at.invariant.2 plan found all in
          let here = all (length at.yielded + 0) x (subst (λ l. slice_get l (length at.yielded + 0) ≡ Some x) split (slice_get-append_right at.yielded (x ∷ into_iter_items c.next.new.self) 0)) in
          some_more plan at.yielded x c.args.found.now at.found c.append.new.self before (appended plan at.found c.append.new.self x c.in_ok-append.ensures before.found here),
    )

pub returns : goal.returns
returns c = λ plan found all.
    let at = c.loop-piece in
    let none = c.in-None.ensures.steps in
    let empty : into_iter_items at.piece-iterator ≡ [] = nil_from_length _ (sym at.invariant.1 ∙ none.0) in
    let given = c.into_iter-piece-iterator.ensures.into_iter_gives.0 in
    let every = sym (append-nil at.yielded) ∙ rw empty at at.invariant.0 ∙ given in
    subst (λ l. AddsFindings plan c.args.found.now at.found (IsInSome plan l)) every (at.invariant.2 plan found (subst (λ l. AreAllFound plan l) (sym given) all))
