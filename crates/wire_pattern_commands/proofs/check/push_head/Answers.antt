use Rattle.std.proofs.Common.{codes, decimal}
use Rattle.wire_pattern_commands.proofs.CheckedPattern.{three_parts}
use Rattle.wire_pattern_commands.proofs.check.push_head.Goals as goal

pub returns : goal.returns
returns c =
    three_parts c.extend_from_slice-2.result c.args.out.now.items (codes "# counterexample, ") (decimal c.args.ranks) _ c.ranks_word.result.now _ _ _
    c.in_ok-extend_from_slice.ensures.items c.in_ok-push_number.ensures.ok c.ranks_word.ensures c.extend_from_slice-2.ensures.items
