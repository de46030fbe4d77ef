use Rattle.std.proofs.Common.{codes, decimal, refl}
use Rattle.wire_pattern_commands.proofs.CheckedPattern.{three_parts}
use Rattle.wire_pattern_commands.proofs.beyond.push_same_most.Goals as goal

pub returns : goal.returns
returns c =
    three_parts c.extend_from_slice-2.result c.args.out.now.items (codes "up to ") (decimal c.args.size) _ (codes " ranks of each group") _ _ _
    c.in_ok-extend_from_slice.ensures.items c.in_ok-push_number.ensures.ok refl c.extend_from_slice-2.ensures.items
