use Rattle.std.proofs.Common.{◌∙◌, ap}
use Rattle.std.specs.List.{list_any}
use Rattle.std.specs.Str.{bytes_eq}
use Rattle.wire_pattern_script.specs.FirstPass.{RoleLines}
use Rattle.wire_pattern_script.specs.Drafted.{role_of}
use Rattle.wire_pattern_script.proofs.Mapped.{any_of_two}
use Rattle.wire_pattern_script.proofs.first_pass.has_role.Goals as goal

pub returns : goal.returns
returns c =
    c.is_role_among.ensures ∙ ap (list_any (λ x. bytes_eq c.args.name.now x.name.now)) c.deref.ensures.value
    ∙ any_of_two role_of (λ (y : RoleLines). y.name) (bytes_eq c.args.name.now) c.args.draft.now.roles.items
