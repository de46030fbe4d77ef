use Rattle.std.proofs.Common.{refl, codes}
use Rattle.wire_pattern_commands.specs.Beyond.{answered_words}
use Rattle.wire_pattern_commands.proofs.CheckedPattern.{three_parts}
use Rattle.wire_pattern_commands.proofs.verdict_json.push_member.Goals as goal

pub returns : goal.returns
returns c =
    three_parts c.extend_from_slice-2.result c.args.out.now.items (codes "\"answered\":\"") (answered_words c.args.pattern.now c.args.beyond.now) _ (codes "\",") _ _ _
    c.in_ok-extend_from_slice.ensures.items c.in_ok-push_words.ensures refl c.extend_from_slice-2.ensures.items
