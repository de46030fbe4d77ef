use Rattle.wire_pattern_commands.proofs.SettledJson.{two_and_last}
use Rattle.wire_pattern_commands.proofs.verdict_json.push_sizes.Goals as goal

pub returns : goal.returns
returns c =
    two_and_last c.push_least.result c.args.out.now.items _ _ _ c.push_later.new.out.items c.extend_from_slice.new.self.items c.push_least.new.out.items
    c.in_ok-push_later.ensures c.in_ok-extend_from_slice.ensures.items c.push_least.ensures
