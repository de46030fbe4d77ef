use Rattle.std.proofs.Common.{◌<◌, length, arith}
use Rattle.crossbeam_deque.proofs.Lists.{at_index}
use Rattle.library_tests.proofs.Taking.{passes_set}
use Rattle.library_tests.proofs.rounds.take.Goals as goal

pub own_take-requires : goal.own_take-requires
own_take-requires c =
    let k : c.args.worker < length c.args.passes.now.items = omega (arith, c.requires.passes.0, c.requires.worker) in
    let at = at_index _ _ _ k c.index_mut.ensures.value in
    (c.requires.passes.1 _ _ at).1

pub returns : goal.returns
returns c =
    let k : c.args.worker < length c.args.passes.now.items = omega (arith, c.requires.passes.0, c.requires.worker) in
    let at = at_index _ _ _ k c.index_mut.ensures.value in
    passes_set c.args.round.now c.args.passes.now.items c.args.worker c.index_mut.result.now c.own_take.new.pass c.requires.passes at c.own_take.ensures.kept.0 c.own_take.ensures.kept.1
