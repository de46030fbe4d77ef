use Rattle.std.proofs.Common.{◌≡◌, ◌<◌, length, arith, refl}
use mathlib.Core.Option.{some}
use lib.ListN.{get_elem?}
use Rattle.crossbeam_deque.proofs.Lists.{at_index}
use Rattle.wire_rounds.specs.Rounds.{IsPermit}
use Rattle.wire_rounds.proofs.Passes.{permit_share, with_permit, took_at}
use Rattle.wire_rounds.proofs.Members.{permit_piece}
use Rattle.wire_rounds.proofs.round.StealRound.steal_take.Goals as goal

pub index_mut-requires : goal.index_mut-requires
index_mut-requires c = omega (arith, c.requires.pass.count, c.requires.victim.0)

permit_at : (c : goal.After-index_mut) → get_elem? c.args.pass.now.permits.items c.args.victim ≡ some c.index_mut.result.now
permit_at c =
    let k : c.args.victim < length c.args.pass.now.permits.items = omega (arith, c.requires.pass.count, c.requires.victim.0) in
    at_index _ _ _ k c.index_mut.ensures.value

the_permit : (c : goal.After-index_mut) → IsPermit c.args.self.now c.args.victim c.index.result.now c.index_mut.result.now
the_permit c =
    c.requires.pass.permits _ _ _ (at_index _ _ _ c.requires.victim.0 c.index.ensures) (permit_at c)

pub steal_from-requires-clause-fifo : goal.steal_from-requires-clause-fifo
steal_from-requires-clause-fifo c = c.requires.pass.fifos _ _ (at_index _ _ _ c.requires.victim.0 c.index.ensures)

pub steal_from-requires-clause-permit : goal.steal_from-requires-clause-permit
steal_from-requires-clause-permit c = (the_permit c).0

pub steal_from-requires-clause-part : goal.steal_from-requires-clause-part
steal_from-requires-clause-part c = omega (arith, (the_permit c).1)

pub returns-clause-kept : goal.returns-clause-kept
returns-clause-kept c =
    let k : c.args.victim < length c.args.pass.now.permits.items = omega (arith, c.requires.pass.count, c.requires.victim.0) in (
      with_permit _ c.args.pass.now _ _ _ c.requires.pass c.requires.victim.1 (at_index _ _ _ k c.index_mut.ensures.value) c.steal_from.ensures.same
          (permit_share _ _ _ c.steal_from.ensures.took),
      refl,
    )

pub returns-clause-took : goal.returns-clause-took
returns-clause-took c =
    let k : c.args.victim < length c.args.pass.now.permits.items = omega (arith, c.requires.pass.count, c.requires.victim.0) in
    took_at _ c.args.pass.now _ _ _ (at_index _ _ _ k c.index_mut.ensures.value) c.steal_from.ensures.took

pub returns-clause-piece : goal.returns-clause-piece
returns-clause-piece c =
    let k : c.args.victim < length c.args.pass.now.permits.items = omega (arith, c.requires.pass.count, c.requires.victim.0) in
    let permit = c.requires.pass.permits _ _ _ (at_index _ _ _ c.requires.victim.0 c.index.ensures) (at_index _ _ _ k c.index_mut.ensures.value) in
    permit_piece c.args.self.now c.args.victim _ _ _ permit.2 c.steal_from.ensures.took
