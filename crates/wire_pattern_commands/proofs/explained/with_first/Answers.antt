use Rattle.wire_pattern_commands.proofs.FirstWaits.{member_explains, lines_explain}
use Rattle.wire_pattern_commands.proofs.explained.with_first.Goals as goal

pub returns-then-json-clause-ok : goal.returns-then-json-clause-ok
returns-then-json-clause-ok c =
    member_explains c.args.json c.args.pattern.now c.args.verdict.now c.args.found.now c.with_member.result c.if-json.true c.with_member.ensures.ok

pub returns-else-json-clause-ok : goal.returns-else-json-clause-ok
returns-else-json-clause-ok c =
    lines_explain c.args.json c.args.pattern.now c.args.verdict.now c.args.found.now c.with_lines.result c.if-json.false c.with_lines.ensures.ok
