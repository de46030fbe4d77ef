use Rattle.std.proofs.Common.{◌∙◌, ◌++◌, ap, append_assoc, codes}
use Rattle.wire_pattern_commands.specs.FirstWait.{not_taken_member, plan_members}
use Rattle.wire_pattern_commands.proofs.explained.first_json.Goals as goal

pub returns-clause-ok : goal.returns-clause-ok
returns-clause-ok c =
    let start = codes ",\"where\":" in
    let first = c.args.first.now in
    let members = c.in_ok-members.members.items in
    let left = not_taken_member first.plan first.left.items in
    let rest = plan_members c.args.pattern.now first.sizes.items first.text.items first.plan in
    record {
      members = members;
      lists = c.in_ok-members.ensures.lists;
      is = c.in_ok-extend_from_slice-2.ensures.items
          ∙ ap (λ xs. xs ++ c.as_slice-2.result.now)
          (c.in_ok-push_not_taken.ensures ∙ ap (λ xs. xs ++ left)
          (c.in_ok-extend_from_slice.ensures.items ∙ ap (λ xs. xs ++ c.as_slice.result.now) c.in_ok-text.ensures.items ∙ ap (λ xs. start ++ xs) c.as_slice.ensures.value))
          ∙ ap (λ xs. ((start ++ members) ++ left) ++ xs) (c.as_slice-2.ensures.value ∙ c.in_ok-rest.ensures) ∙ append_assoc (start ++ members) left rest
          ∙ append_assoc start members (left ++ rest);
    }
