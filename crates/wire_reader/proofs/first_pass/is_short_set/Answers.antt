use Rattle.std.proofs.Common.{◌∙◌, ap}
use Rattle.std.specs.List.{list_all}
use Rattle.wire_lines.specs.Views.{view_item}
use Rattle.wire_reader.specs.FirstPass.{is_short_item}
use Rattle.wire_reader.proofs.Lists.{all_of}
use Rattle.wire_reader.proofs.first_pass.is_short_set.Goals as goal

pub returns-in-Listed : goal.returns-in-Listed
returns-in-Listed c =
    rw c.in-Listed.is (c.are_short_items.ensures ∙ ap (list_all (λ i. is_short_item (view_item i))) c.deref.ensures.value ∙ all_of view_item is_short_item c.in-Listed.items.items)
