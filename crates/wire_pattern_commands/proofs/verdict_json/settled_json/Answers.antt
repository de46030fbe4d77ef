use Rattle.wire_pattern_commands.proofs.SettledJson.{shown_settled}
use Rattle.wire_pattern_commands.proofs.verdict_json.settled_json.Goals as goal

pub returns : goal.returns
returns c =
    shown_settled _ _ _ _ _ _ _ c.in_ok-out.out.items c.push_answers.new.out.items c.extend_from_slice.new.self.items c.push_sizes.new.out.items
    c.extend_from_slice-2.new.self.items c.push_waits.new.out.items c.extend_from_slice-3.new.self.items
    c.in_ok-out.ensures c.in_ok-push_answers.ensures c.in_ok-extend_from_slice.ensures.items c.in_ok-push_sizes.ensures c.in_ok-extend_from_slice-2.ensures.items
    c.in_ok-push_waits.ensures c.in_ok-extend_from_slice-3.ensures.items
