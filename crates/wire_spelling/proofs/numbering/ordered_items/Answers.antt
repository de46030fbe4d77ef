use Rattle.wire_spelling.specs.Spelled.{set_by}
use Rattle.wire_spelling.proofs.NumberTable.{in_order}
use Rattle.wire_spelling.proofs.numbering.ordered_items.Goals as goal

pub returns : goal.returns
returns c = in_order (set_by c.args.spelled) c.in_ok-items.items.items c.sort_unstable.new.self.items c.in_ok-items.ensures c.sort_unstable.ensures.permutation c.sort_unstable.ensures.sorted
