use Rattle.std.proofs.Common.{◌∙◌, ap}
use Rattle.std.specs.List.{list_all}
use Rattle.wire_pattern_script.specs.Faults.{is_declared_who}
use Rattle.wire_pattern.specs.Views.{who_by}
use Rattle.wire_pattern_script.proofs.Mapped.{all_of}
use Rattle.wire_pattern_script.proofs.calls.is_declared_word.Goals as goal

pub returns : goal.returns
returns c =
    c.are_declared_whos.ensures ∙ ap (list_all (λ x. is_declared_who c.args.roles (who_by x))) c.deref.ensures.value ∙ all_of who_by (is_declared_who c.args.roles) c.args.word.now.indices.items
