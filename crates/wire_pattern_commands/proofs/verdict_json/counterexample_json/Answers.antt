use Rattle.wire_pattern_commands.proofs.ShownJson.{shown_json}
use Rattle.wire_pattern_commands.proofs.verdict_json.counterexample_json.Goals as goal

pub returns : goal.returns
returns c =
    shown_json c.args.found.now.text.items c.as_slice.result.now c.args.found.now.plan c.scripts-scripts.result.now c.args.found.now.findings.items c.as_slice-2.result.now
    c.new-out.result.items c.extend_from_slice.new.self.items c.push_text.new.out.items c.extend_from_slice-2.new.self.items c.push_found.new.out.items c.push_ranks.new.out.items
    c.as_slice.ensures.value c.scripts-scripts.ensures.scripts c.as_slice-2.ensures.value c.new-out.ensures.items c.in_ok-extend_from_slice.ensures.items c.in_ok-push_text.ensures
    c.in_ok-extend_from_slice-2.ensures.items c.in_ok-push_found.ensures c.in_ok-push_ranks.ensures
