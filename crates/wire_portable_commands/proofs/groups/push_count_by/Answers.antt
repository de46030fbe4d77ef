use Rattle.std.proofs.Common.{◌∙◌, ◌++◌, ap, codes, decimal, length}
use Rattle.wire_report.proofs.Appended.{then_more, last_slice}
use Rattle.wire_portable_commands.proofs.groups.push_count_by.Goals as goal

pub returns : goal.returns
returns c =
    let start = c.args.out.now.items in
    let by = then_more start _ _ _ _ c.in_ok-push_number.ensures.ok c.in_ok-extend_from_slice.ensures.items in
    last_slice c.extend_from_slice-2.result start _ _ _ _ _ by c.extend_from_slice-2.ensures.items
    (ap (λ word. decimal (length c.args.those.now) ++ codes " unportable by " ++ word) (c.as_bytes.ensures.value ∙ c.rule_word.ensures))
