use Rattle.std.proofs.Common.{◌-◌, length, arith}
use Rattle.wire_cutoff.proofs.Judged.{item_sizes, item_total}
use Rattle.wire_pattern_stages.proofs.last.last_stages.Goals as goal

pub selection_stages-requires-clause-sizes : goal.selection_stages-requires-clause-sizes
selection_stages-requires-clause-sizes c =
    let some = c.if-all-eq0.false in
    item_sizes c.args.pattern.now c.args.all.now (length c.args.all.now - 1) c.index-all-all.result c.requires.all (omega (arith, some)) c.index-all-all.is

pub selection_stages-requires-clause-few : goal.selection_stages-requires-clause-few
selection_stages-requires-clause-few c =
    let some = c.if-all-eq0.false in
    item_total c.args.pattern.now c.args.all.now (length c.args.all.now - 1) c.index-all-all.result c.requires.all (omega (arith, some)) c.index-all-all.is
    c.requires.few
