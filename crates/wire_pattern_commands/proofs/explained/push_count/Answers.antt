use Rattle.std.proofs.Common.{decimal}
use Rattle.wire_pattern_commands.proofs.FirstWaits.{two_parts}
use Rattle.wire_pattern_commands.proofs.explained.push_count.Goals as goal

pub returns : goal.returns
returns c =
    two_parts c.extend_from_slice.result c.args.out.now.items (decimal c.args.count) _ c.ranks_word.result.now _ _
    c.in_ok-push_number.ensures.ok c.ranks_word.ensures c.extend_from_slice.ensures.items
