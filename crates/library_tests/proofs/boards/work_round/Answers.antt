use Rattle.std.proofs.Common.{◌<◌, length, arith}
use Rattle.crossbeam_deque.proofs.Lists.{at_index}
use Rattle.library_tests.proofs.boards.work_round.Goals as goal

pub index_mut-requires : goal.index_mut-requires
index_mut-requires g c =
    let e = c.in_ok-round.ensures in
    let one = e.deal.2 in
    let all = e.passes.0 in
    let len = c.in_ok-round.passes.ok.0 in
    omega (arith, one, all, len)

pub work-events-requires : goal.work-events-requires
work-events-requires g c =
    let e = c.in_ok-round.ensures in
    let one = e.deal.2 in
    let all = e.passes.0 in
    let k : 0 < length c.in_ok-round.passes.items = omega (arith, one, all) in
    (e.passes.1 _ _ (at_index _ _ _ k c.index_mut.ensures.value)).1

pub take_turns-events-requires : goal.take_turns-events-requires
take_turns-events-requires g c =
    let e = c.in_ok-round.ensures in
    let one = e.deal.2 in
    let all = e.passes.0 in
    let k : 0 < length c.in_ok-round.passes.items = omega (arith, one, all) in
    (e.passes.1 _ _ (at_index _ _ _ k c.index_mut-in-Turns.ensures.value)).1
