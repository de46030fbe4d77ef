use Rattle.std.proofs.Common.{◌∙◌, ap}
use Rattle.std.specs.List.{list_any}
use Rattle.wire_pattern_lines.specs.Said.{is_each}
use Rattle.wire_pattern_lines.specs.Views.{proc_by}
use Rattle.wire_pattern_script.proofs.Mapped.{any_of}
use Rattle.wire_pattern_script.proofs.first_pass.is_indexed_by_each.Goals as goal

pub returns : goal.returns
returns c =
    c.has_each.ensures ∙ ap (list_any (λ x. is_each (proc_by x))) c.deref.ensures.value ∙ any_of proc_by (is_each) c.args.key.now.indices.items
