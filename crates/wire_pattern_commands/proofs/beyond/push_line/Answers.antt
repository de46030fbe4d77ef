use Rattle.std.proofs.Common.{codes}
use Rattle.wire_pattern_commands.specs.Beyond.{answered_words}
use Rattle.wire_pattern_commands.proofs.CheckedPattern.{three_parts}
use Rattle.wire_pattern_commands.proofs.beyond.push_line.Goals as goal

pub returns : goal.returns
returns c =
    three_parts c.extend_from_slice-2.result c.args.out.now.items (codes "every call is answered for ") (answered_words c.args.pattern.now c.args.beyond.now) _ c.line_end.result.now _ _ _
    c.in_ok-extend_from_slice.ensures.items c.in_ok-push_words.ensures c.line_end.ensures c.extend_from_slice-2.ensures.items
