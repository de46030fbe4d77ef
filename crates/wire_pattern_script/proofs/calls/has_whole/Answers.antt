use Rattle.std.proofs.Common.{◌∙◌, ap, map}
use Rattle.std.specs.List.{list_any}
use Rattle.wire_pattern.specs.Lawful.{has_role}
use Rattle.wire_pattern.specs.Views.{view_item, role_by}
use Rattle.wire_pattern_script.proofs.Mapped.{any_of}
use Rattle.wire_pattern_script.proofs.calls.has_whole.Goals as goal

pub returns-in-Fence : goal.returns-in-Fence
returns-in-Fence c =
    rw c.in-Fence.is (c.have_role.ensures ∙ ap (list_any (λ x. has_role (map role_by c.args.roles.now) c.args.role (view_item x))) c.deref.ensures.value ∙ any_of view_item (has_role (map role_by c.args.roles.now) c.args.role) c.in-Fence.items.items)
