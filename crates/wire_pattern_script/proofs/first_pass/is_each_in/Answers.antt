use Rattle.std.proofs.Common.{◌∙◌, ap}
use Rattle.std.specs.List.{list_any}
use Rattle.wire_pattern_lines.specs.Said.{is_each_item}
use Rattle.wire_pattern_lines.specs.Views.{view_item}
use Rattle.wire_pattern_script.proofs.Mapped.{any_of}
use Rattle.wire_pattern_script.proofs.first_pass.is_each_in.Goals as goal

pub returns-in-Listed : goal.returns-in-Listed
returns-in-Listed c =
    rw c.in-Listed.is (c.have_each.ensures ∙ ap (list_any (λ x. is_each_item (view_item x))) c.deref.ensures.value ∙ any_of view_item (is_each_item) c.in-Listed.items.items)
