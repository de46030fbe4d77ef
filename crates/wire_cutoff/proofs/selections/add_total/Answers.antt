use Rattle.wire_cutoff.proofs.Items.{item_are, item_few}
use Rattle.wire_cutoff.proofs.selections.add_total.Goals as goal

pub total_of-requires : goal.total_of-requires
total_of-requires c =
    item_few c.args.pattern.now.roles c.args.lists.now c.loop-sizes.sizes-index c.sizes-item.result c.as_slice.result.now c.requires.sizes c.loop-sizes-test.true
    c.sizes-item.is c.as_slice.ensures.value c.requires.few

pub add_sizes-requires-clause-sizes : goal.add_sizes-requires-clause-sizes
add_sizes-requires-clause-sizes c =
    item_are c.args.pattern.now.roles c.args.lists.now c.loop-sizes.sizes-index c.sizes-item.result c.as_slice-then-total_of-total.result.now c.requires.sizes
    c.loop-sizes-test.true c.sizes-item.is c.as_slice-then-total_of-total.ensures.value

pub add_sizes-requires-clause-few : goal.add_sizes-requires-clause-few
add_sizes-requires-clause-few c =
    item_few c.args.pattern.now.roles c.args.lists.now c.loop-sizes.sizes-index c.sizes-item.result c.as_slice-then-total_of-total.result.now c.requires.sizes
    c.loop-sizes-test.true c.sizes-item.is c.as_slice-then-total_of-total.ensures.value c.requires.few
