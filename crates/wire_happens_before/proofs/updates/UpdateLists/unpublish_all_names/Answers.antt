use Rattle.std.proofs.Common.{◌∙◌, ap, refl, sym, subst, inl, inr, arith}
use Rattle.std.specs.Prelude.{slice_get}
use Rattle.std.proofs.lemmas.Bool.{cases_eq}
use Rattle.std.proofs.lemmas.Option.{same_Some, slice_get_within, slice_get-get_or}
use Rattle.wire_runs.specs.Plan.{event_of}
use Rattle.wire_happens_before.specs.Updates.{updates_at, IsCleared}
use Rattle.wire_happens_before.proofs.Holding.{swept_twice, cleared_still}
use Rattle.wire_happens_before.proofs.updates.UpdateLists.unpublish_all_names.Goals as goal

pub loop-name-init : goal.loop-name-init
loop-name-init c = record { each = λ n. inl refl; cleared = λ k n lt. absurd (omega (arith, lt)) }

pub returns-in_err-unpublish_all-clause-each : goal.returns-in_err-unpublish_all-clause-each
returns-in_err-unpublish_all-clause-each c = λ n. swept_twice (event_of c.args.event) _ _ _ (c.loop-name.invariant.each n) (c.unpublish_all.ensures.each n)

pub loop-name-preserved : goal.loop-name-preserved
loop-name-preserved c = record {
  each = λ n. swept_twice (event_of c.args.event) _ _ _ (c.loop-name.invariant.each n) (c.unpublish_all.ensures.each n);
  cleared = λ k n lt is. elim (cases_eq k c.loop-name.name-index) [
    | inl e ↦ subst (λ m. IsCleared c.args.event.proc.number (updates_at c.unpublish_all.new.self m))
        (same_Some _ _ (sym (slice_get-get_or c.args.names.now c.loop-name.name-index _ c.loop-name-test.true) ∙ ap (slice_get c.args.names.now) (sym e) ∙ is)) c.in_ok-unpublish_all.ensures.cleared
    | inr ne ↦ cleared_still (event_of c.args.event) _ _ (c.unpublish_all.ensures.each n) (c.loop-name.invariant.cleared k n (omega (arith, lt, ne)) is)
  ];
}

pub returns-clause-cleared : goal.returns-clause-cleared
returns-clause-cleared c = λ k n is.
    let within = slice_get_within c.args.names.now k n is in
    let end = c.loop-name-test.false in
    c.loop-name.invariant.cleared k n (omega (arith, within, end)) is
