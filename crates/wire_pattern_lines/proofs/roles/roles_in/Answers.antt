use Rattle.std.proofs.Common.{◌∙◌, ap, sym}
use Rattle.std.specs.List.{list_all}
use Rattle.wire_pattern_lines.specs.Said.{is_role_name}
use Rattle.wire_pattern_lines.proofs.RoleLists.{listed, no_roles}
use Rattle.wire_pattern_lines.proofs.roles.roles_in.Goals as goal

pub returns-then-may_name_roles-clause-found : goal.returns-then-may_name_roles-clause-found
returns-then-may_name_roles-clause-found c =
    listed c.args.word.now c.in_ok-parts.parts.items c.in_ok-parts.ensures
    (sym c.if-may_name_roles.true ∙ c.may_name_roles.ensures ∙ ap (list_all (λ w. is_role_name w.now)) c.deref.ensures.value)

pub returns-clause-none : goal.returns-clause-none
returns-clause-none c =
    no_roles c.args.word.now c.in_ok-parts.parts.items c.in_ok-parts.ensures
    (sym c.if-may_name_roles.false ∙ c.may_name_roles.ensures ∙ ap (list_all (λ w. is_role_name w.now)) c.deref.ensures.value)
