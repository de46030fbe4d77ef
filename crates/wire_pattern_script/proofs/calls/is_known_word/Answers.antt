use Rattle.std.proofs.Common.{◌∙◌, ap, map}
use Rattle.std.specs.List.{list_all}
use Rattle.wire_pattern.specs.Lawful.{is_known_who}
use Rattle.wire_pattern.specs.Views.{who_by, role_by}
use Rattle.wire_pattern_script.proofs.Mapped.{all_of}
use Rattle.wire_pattern_script.proofs.calls.is_known_word.Goals as goal

pub returns : goal.returns
returns c =
    c.are_known_whos.ensures ∙ ap (list_all (λ x. is_known_who (map role_by c.args.roles.now) (who_by x))) c.deref.ensures.value ∙ all_of who_by (is_known_who (map role_by c.args.roles.now)) c.args.word.now.indices.items
