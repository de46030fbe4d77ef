use Rattle.std.proofs.Common.{◌∙◌, ap, map}
use Rattle.std.specs.List.{list_any}
use Rattle.wire_pattern.specs.Lawful.{has_caller}
use Rattle.wire_pattern.specs.Views.{view_item, role_by}
use Rattle.wire_pattern_script.proofs.Mapped.{any_of}
use Rattle.wire_pattern_script.proofs.calls.is_member_call.Goals as goal

pub returns-in-Fence : goal.returns-in-Fence
returns-in-Fence c =
    rw c.in-Fence.is (c.have_caller.ensures ∙ ap (list_any (λ x. has_caller (map role_by c.args.roles.now) c.args.caller (view_item x))) c.deref.ensures.value ∙ any_of view_item (has_caller (map role_by c.args.roles.now) c.args.caller) c.in-Fence.items.items)
