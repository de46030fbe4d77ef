use Rattle.std.proofs.Common.{ℕ, List, set, ◌+◌, ◌<◌, length, arith, subst, sym, refl}
use Rattle.crossbeam_deque.proofs.Lists.{at_index}
use Rattle.wire_rounds.proofs.Rows.{RowSoFar, row_goes_on, row_ends, row_next}
use Rattle.wire_rounds.specs.Rounds.{Permit}
use Rattle.wire_rounds.specs.declared.round.Pass.{Pass}
use Rattle.wire_rounds.proofs.deques.cut_permits.Goals as goal

abbrev RowTo : List Pass → List Pass → ℕ → List Permit → Type 0
RowTo before now i row = RowSoFar before now row i

pub cut_permit-requires : goal.cut_permit-requires
cut_permit-requires c =
    let k : c.loop-i.i < length c.loop-i.passes.items = omega (arith, c.loop-i.invariant.0.same_length) in
    c.requires _ _ (row_next _ _ _ _ _ c.loop-i.invariant.0 (at_index _ _ _ k c.index_mut.ensures.value))

pub loop-i-preserved : goal.loop-i-preserved
loop-i-preserved c =
    let k : c.loop-i.i < length c.loop-i.passes.items = omega (arith, c.loop-i.invariant.0.same_length) in
    let at = at_index _ _ _ k c.index_mut.ensures.value in
    let q : Pass = record { worker = c.index_mut.result.now.worker; own = c.cut_permit.new.own; permits = c.index_mut.result.now.permits } in
    let next = row_goes_on c.args.passes.now.items c.loop-i.passes.items c.loop-i.permits.items c.loop-i.i c.index_mut.result.now q c.cut_permit.result c.loop-i.invariant.0 at
    (refl, c.cut_permit.ensures.same, refl, c.cut_permit.ensures.view) c.cut_permit.ensures.permit in
    (subst (RowTo c.args.passes.now.items (set c.loop-i.passes.items c.loop-i.i q) (c.loop-i.i + 1)) (sym c.push_reserved.ensures.items) next, omega arith)

pub returns-clause-cut : goal.returns-clause-cut
returns-clause-cut c = (row_ends _ _ _ _ c.loop-i.invariant.0 (omega arith)).0

pub returns-clause-permits : goal.returns-clause-permits
returns-clause-permits c = (row_ends _ _ _ _ c.loop-i.invariant.0 (omega arith)).1
