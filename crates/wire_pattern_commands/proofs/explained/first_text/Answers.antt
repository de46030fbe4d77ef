use Rattle.std.proofs.Common.{◌∙◌, ◌++◌, ap, append_assoc}
use Rattle.wire_pattern_commands.specs.FirstWait.{first_line}
use Rattle.wire_pattern_commands.specs.LeftOut.{left_part}
use Rattle.wire_pattern_commands.proofs.explained.first_text.Goals as goal

pub returns-clause-ok : goal.returns-clause-ok
returns-clause-ok c =
    let first = c.args.first.now in
    let line = first_line c.args.pattern.now first.sizes.items first.plan in
    let left = left_part first.plan first.left.items in
    record {
      told = c.in_ok-told.told.items;
      tells = c.in_ok-told.ensures.tells;
      is = c.in_ok-extend_from_slice.ensures.items
          ∙ ap (λ xs. xs ++ c.as_slice.result.now) (c.in_ok-push_left_out.ensures ∙ ap (λ xs. xs ++ left) c.in_ok-text.ensures)
          ∙ ap (λ xs. (line ++ left) ++ xs) c.as_slice.ensures.value ∙ append_assoc line left c.in_ok-told.told.items;
    }
