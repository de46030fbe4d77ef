use Rattle.std.proofs.Common.{◌∙◌, ℕ, ◌<◌, Option, None, get_or, sym, subst}
use Rattle.std.proofs.lemmas.Option.{slice_get-get_or}
use Rattle.wire_types.specs.declared.Scope.TheVariants.{Local}
use Rattle.wire_store.specs.declared.chain.Slot.{Slot}
use Rattle.wire_store.proofs.Chained.{StandsAt, stands_back, stands_found, stands_at_none, steps_left, fewer_left, names_within}
use Rattle.wire_store.proofs.chain.last_before.Goals as goal

-- what a read past the end would give
abbrev no_slot : Slot
no_slot = record { at = 0; key = 0; scope = Local; call = record { proc = record { number = 0 }; call = 0 }; stored_by = None; stored_before = None }

pub returns-then-is_stored_before-clause-last : goal.returns-then-is_stored_before-clause-last
returns-then-is_stored_before-clause-last c = λ key n within is.
    let low = c.loop-last.invariant.there c.in-Some.i c.in-Some.is in
    let stands = subst (λ (o : Option ℕ). StandsAt c.args.slots.now key c.args.event n o) c.in-Some.is (c.loop-last.invariant.stands key n within is) in
    stands_found c.args.slots.now key c.args.event n c.in-Some.i (get_or c.args.slots.now c.in-Some.i no_slot) (slice_get-get_or c.args.slots.now c.in-Some.i no_slot low)
    (sym c.is_stored_before.ensures ∙ c.if-is_stored_before.true) stands

pub loop-last-smaller : goal.loop-last-smaller
loop-last-smaller c =
    let low = c.loop-last.invariant.there c.in-Some.i c.in-Some.is in
    let less = fewer_left c.args.slots.now c.in-Some.i (get_or c.args.slots.now c.in-Some.i no_slot) c.requires.chained (slice_get-get_or c.args.slots.now c.in-Some.i no_slot low) in
    let at = λ (o : Option ℕ). steps_left (get_or c.args.slots.now c.in-Some.i no_slot).stored_before < steps_left o in
    subst at (sym c.in-Some.is) less

pub loop-last-preserved : goal.loop-last-preserved
loop-last-preserved c =
    let low = c.loop-last.invariant.there c.in-Some.i c.in-Some.is in
    let here = slice_get-get_or c.args.slots.now c.in-Some.i no_slot low in
    record {
      there = λ j next. names_within c.args.slots.now c.in-Some.i j (get_or c.args.slots.now c.in-Some.i no_slot) c.requires.chained here next;
      stands = λ key n within is.
          let stands = subst (λ (o : Option ℕ). StandsAt c.args.slots.now key c.args.event n o) c.in-Some.is (c.loop-last.invariant.stands key n within is) in
          stands_back c.args.slots.now key c.args.event n c.in-Some.i (get_or c.args.slots.now c.in-Some.i no_slot) _ c.requires.chained here
          (sym c.is_stored_before.ensures ∙ c.if-is_stored_before.false) (λ i. (get_or c.args.slots.now c.in-Some.i no_slot).stored_before) stands;
    }

pub returns-clause-last : goal.returns-clause-last
returns-clause-last c = λ key n within is.
    stands_at_none c.args.slots.now key c.args.event n (subst (λ (o : Option ℕ). StandsAt c.args.slots.now key c.args.event n o) c.in_default.is (c.loop-last.invariant.stands key n within is))
