use Rattle.std.proofs.Common.{◌∙◌, ◌++◌, ap}
use Rattle.wire_pattern_commands.proofs.FirstWaits.{lines_added}
use Rattle.wire_pattern_commands.proofs.explained.with_lines.Goals as goal

pub returns-clause-ok : goal.returns-clause-ok
returns-clause-ok c =
    let verdict = c.args.verdict.now in
    let lines = c.in_ok-lines.lines.items in
    lines_added c.args.pattern.now verdict lines _ c.args.found.now c.in_ok-lines.ensures.ok
    (c.in_ok-extend_from_slice.ensures.items ∙ ap (λ xs. xs ++ c.as_slice.result.now) c.in_ok-text.ensures.items ∙ ap (λ xs. verdict ++ xs) c.as_slice.ensures.value)
