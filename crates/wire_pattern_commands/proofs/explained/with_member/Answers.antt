use Rattle.std.proofs.Common.{◌∙◌, ◌++◌, ap}
use Rattle.wire_pattern_commands.specs.FirstWait.{without_end}
use Rattle.wire_pattern_commands.proofs.FirstWaits.{member_added}
use Rattle.wire_pattern_commands.proofs.explained.with_member.Goals as goal

pub returns-clause-ok : goal.returns-clause-ok
returns-clause-ok c =
    let verdict = c.args.verdict.now in
    let member = c.in_ok-member.member.items in
    member_added c.args.pattern.now verdict member _ c.args.found.now c.in_ok-member.ensures.ok
    (c.in_ok-extend_from_slice.ensures.items ∙ ap (λ xs. xs ++ c.as_slice.result.now) (c.in_ok-text.ensures.items ∙ c.without_end.ensures)
    ∙ ap (λ xs. without_end verdict ++ xs) c.as_slice.ensures.value)
