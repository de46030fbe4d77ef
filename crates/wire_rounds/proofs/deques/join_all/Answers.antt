use Rattle.std.proofs.Common.{◌<◌, length, set, arith, subst, sym, refl}
use Rattle.crossbeam_deque.proofs.Lists.{at_index}
use Rattle.wire_rounds.specs.declared.round.Pass.{Pass}
use Rattle.wire_rounds.specs.Deques.{EachPair, CanTake, AreJoined}
use Rattle.wire_rounds.proofs.Joins.{joining_nothing, joining_can, joining_more, joining_ends}
use Rattle.wire_rounds.proofs.deques.join_all.Goals as goal

pub rows-init : goal.rows-init
rows-init c = joining_nothing _

pub join_permits-requires : goal.join_permits-requires
join_permits-requires c =
    let k : c.rows.from < length c.rows.passes.items = omega arith in
    let at = at_index _ _ _ k c.index_mut.ensures.value in
    let q : Pass = record { worker = c.index_mut.result.now.worker; own = c.index_mut.result.now.own; permits = c.replace-permits.new.dest } in
    subst (λ v. EachPair CanTake (set c.rows.passes.items c.rows.from q) v.items) (sym c.replace-permits.ensures.value)
    (joining_can c.args.passes.now.items c.rows.passes.items c.rows.from c.index_mut.result.now q c.rows.invariant c.requires at refl refl)

pub rows-preserved : goal.rows-preserved
rows-preserved c =
    let k : c.rows.from < length c.rows.passes.items = omega arith in
    let at = at_index _ _ _ k c.index_mut.ensures.value in
    let q : Pass = record { worker = c.index_mut.result.now.worker; own = c.index_mut.result.now.own; permits = c.replace-permits.new.dest } in
    joining_more c.args.passes.now.items c.rows.passes.items c.join_permits.new.passes.items c.rows.from c.index_mut.result.now q c.rows.invariant c.requires at refl refl
    (subst (λ v. AreJoined (set c.rows.passes.items c.rows.from q) v.items c.join_permits.new.passes.items) c.replace-permits.ensures.value c.join_permits.ensures)

pub returns : goal.returns
returns c = joining_ends _ _ _ c.rows.invariant (omega arith)
