use Rattle.std.proofs.Common.{◌<◌, length, arith, subst, sym, refl, ◌∙◌}
use Rattle.crossbeam_deque.proofs.Lists.{at_index}
use Rattle.std.specs.List.{All}
use Rattle.wire_rounds.specs.declared.round.Pass.{Pass}
use Rattle.wire_rounds.specs.Rounds.{IsPieceOf, workers_of}
use Rattle.wire_rounds.proofs.Members.{rest_pieces}
use Rattle.wire_rounds.proofs.Joins.{passes_can_join}
use Rattle.wire_rounds.proofs.Finishes.{Finishing, turn, finishing_nothing, finishing_more, finishing_order, finishing_once}
use Rattle.wire_rounds.proofs.round.StealRound.finish.Goals as goal

pub join_all-requires : goal.join_all-requires
join_all-requires c = passes_can_join c.args.self c.args.passes.items c.requires

pub deques-init : goal.deques-init
deques-init c = (
  subst (λ l. Finishing c.args.self c.args.passes.items c.join_all.new.passes.items l 0) (sym c.args.self.empty)
      (finishing_nothing c.args.self c.args.passes.items c.join_all.new.passes.items c.join_all.ensures),
  refl,
)

pub drain-requires-clause-fifo : goal.drain-requires-clause-fifo
drain-requires-clause-fifo c =
    let k : c.deques.i < length c.deques.passes.items = omega (arith, c.deques.invariant.0.same_length) in
    let at = at_index _ _ _ k c.index_mut.ensures.value in
    (turn c.args.self c.args.passes.items c.deques.passes.items c.deques.left.items c.deques.i c.index_mut.result.now c.requires c.deques.invariant.0 at).fifo

pub drain-requires-clause-part : goal.drain-requires-clause-part
drain-requires-clause-part c =
    let k : c.deques.i < length c.deques.passes.items = omega (arith, c.deques.invariant.0.same_length) in
    let at = at_index _ _ _ k c.index_mut.ensures.value in
    let t = turn c.args.self c.args.passes.items c.deques.passes.items c.deques.left.items c.deques.i c.index_mut.result.now c.requires c.deques.invariant.0 at in
    omega (arith, t.whole)

pub drain-requires-clause-room : goal.drain-requires-clause-room
drain-requires-clause-room c =
    let k : c.deques.i < length c.deques.passes.items = omega (arith, c.deques.invariant.0.same_length) in
    let at = at_index _ _ _ k c.index_mut.ensures.value in
    let t = turn c.args.self c.args.passes.items c.deques.passes.items c.deques.left.items c.deques.i c.index_mut.result.now c.requires c.deques.invariant.0 at in
    let cap = c.deques.invariant.1 in
    let most = c.args.self.room in
    let len = c.deques.left.ok.0 in
    omega (arith, t.room, cap, most, len)

pub deques-preserved : goal.deques-preserved
deques-preserved c =
    let k : c.deques.i < length c.deques.passes.items = omega (arith, c.deques.invariant.0.same_length) in
    let at = at_index _ _ _ k c.index_mut.ensures.value in
    let q : Pass = record { worker = c.index_mut.result.now.worker; own = c.drain.new.own; permits = c.index_mut.result.now.permits } in
    let before = c.deques.left.ok.0 in
    let after = c.drain.new.left.ok.0 in
    let bound = c.drain.ensures.bound in (
      finishing_more c.args.self c.args.passes.items c.deques.passes.items c.deques.left.items c.drain.new.left.items c.deques.i c.index_mut.result.now q c.requires c.deques.invariant.0 at
          c.drain.ensures.rest (omega (arith, before, after, bound)),
      c.drain.ensures.capacity ∙ c.deques.invariant.1,
    )

pub returns-clause-order : goal.returns-clause-order
returns-clause-order c = finishing_order _ _ _ _ _ c.requires c.deques.invariant.0
    (omega (arith, c.deques.invariant.0.same_length, c.join_all.ensures.0, c.len-i-end.ensures, c.deques-test.false, c.deques.auto.i-end, c.join_all.new.passes.ok.0))

pub returns-clause-once : goal.returns-clause-once
returns-clause-once c = finishing_once _ _ _ _ _ c.requires c.deques.invariant.0
    (omega (arith, c.deques.invariant.0.same_length, c.join_all.ensures.0, c.len-i-end.ensures, c.deques-test.false, c.deques.auto.i-end, c.join_all.new.passes.ok.0))
    (omega (arith, c.args.self.staffed, c.args.self.thieves.ok.0))

pub returns-clause-pieces : goal.returns-clause-pieces
returns-clause-pieces c =
    let order = finishing_order _ _ _ _ _ c.requires c.deques.invariant.0
    (omega (arith, c.deques.invariant.0.same_length, c.join_all.ensures.0, c.len-i-end.ensures, c.deques-test.false, c.deques.auto.i-end, c.join_all.new.passes.ok.0)) in
    subst (All (IsPieceOf c.args.self)) (sym order) (rest_pieces c.args.self (workers_of c.args.self) c.args.passes.items)
