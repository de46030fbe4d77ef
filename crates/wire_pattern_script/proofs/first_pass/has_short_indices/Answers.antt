use Rattle.std.proofs.Common.{◌∙◌, ap}
use Rattle.std.specs.List.{list_all}
use Rattle.wire_pattern_script.specs.FirstPass.{is_short_proc}
use Rattle.wire_pattern_lines.specs.Views.{proc_by}
use Rattle.wire_pattern_script.proofs.Mapped.{all_of}
use Rattle.wire_pattern_script.proofs.first_pass.has_short_indices.Goals as goal

pub returns : goal.returns
returns c =
    c.are_short_procs.ensures ∙ ap (list_all (λ x. is_short_proc (proc_by x))) c.deref.ensures.value ∙ all_of proc_by (is_short_proc) c.args.key.now.indices.items
