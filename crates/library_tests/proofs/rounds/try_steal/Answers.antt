use Rattle.std.proofs.Common.{◌<◌, length, arith, ◌∙◌}
use Rattle.crossbeam_deque.proofs.Lists.{at_index}
use Rattle.library_tests.proofs.Taking.{passes_set}
use Rattle.library_tests.proofs.rounds.try_steal.Goals as goal

pub steal_take-requires-clause-pass : goal.steal_take-requires-clause-pass
steal_take-requires-clause-pass c =
    let k : c.args.worker < length c.args.passes.now.items = omega (arith, c.requires.passes.0, c.requires.worker) in
    let at = at_index _ _ _ k c.index_mut.ensures.value in
    (c.requires.passes.1 _ _ at).1

pub steal_take-requires-clause-victim : goal.steal_take-requires-clause-victim
steal_take-requires-clause-victim c =
    let k : c.args.worker < length c.args.passes.now.items = omega (arith, c.requires.passes.0, c.requires.worker) in
    let at = at_index _ _ _ k c.index_mut.ensures.value in
    (c.requires.victim.0, λ e. c.requires.victim.1 (e ∙ (c.requires.passes.1 _ _ at).0))

pub returns : goal.returns
returns c =
    let k : c.args.worker < length c.args.passes.now.items = omega (arith, c.requires.passes.0, c.requires.worker) in
    let at = at_index _ _ _ k c.index_mut.ensures.value in
    passes_set c.args.round.now c.args.passes.now.items c.args.worker c.index_mut.result.now c.steal_take.new.pass c.requires.passes at c.steal_take.ensures.kept.0 c.steal_take.ensures.kept.1
