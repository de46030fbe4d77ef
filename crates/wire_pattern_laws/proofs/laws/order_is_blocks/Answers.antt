use Rattle.wire_pattern_laws.proofs.RoleBlocks.{order_is_blocks}
use Rattle.wire_pattern_laws.proofs.laws.order_is_blocks.Goals as goal

pub returns : goal.returns
returns c = order_is_blocks
