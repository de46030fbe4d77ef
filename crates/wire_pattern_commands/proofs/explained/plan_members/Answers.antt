use Rattle.std.proofs.Common.{◌∙◌, ◌++◌, ap, codes}
use Rattle.wire_json.specs.Json.{quoted}
use Rattle.wire_pattern_commands.specs.Strings.{text_string}
use Rattle.wire_pattern_commands.specs.FirstWait.{with_words}
use Rattle.wire_pattern_commands.proofs.FirstWaits.{five_parts}
use Rattle.wire_pattern_commands.proofs.explained.plan_members.Goals as goal

pub returns : goal.returns
returns c =
    let first = c.args.first.now in
    let start = codes "\"plan\":" in
    five_parts start (text_string first.text.items) (codes ",\"with\":") (quoted (with_words c.args.pattern.now first.sizes.items first.plan)) (codes "}}\n")
    (quoted c.as_slice-2.result.now) _ _ _ _
    (c.in_ok-push_text.ensures ∙ ap (λ xs. xs ++ text_string c.as_slice.result.now) c.in_ok-text.ensures.items ∙ ap (λ xs. start ++ text_string xs) c.as_slice.ensures.value)
    c.in_ok-extend_from_slice.ensures.items (ap quoted (c.as_slice-2.ensures.value ∙ c.in_ok-words.ensures)) c.in_ok-push_quoted.ensures
    c.in_ok-extend_from_slice-2.ensures.items
