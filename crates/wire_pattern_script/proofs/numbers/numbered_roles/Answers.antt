use Rattle.std.proofs.Common.{ap, map}
use Rattle.wire_pattern_script.specs.Numbers.{role_of}
use Rattle.wire_pattern.specs.Views.{role_by}
use Rattle.wire_pattern_script.specs.Drafted.{role_of as draft_role_of}
use Rattle.wire_pattern_script.specs.Drafted.{declared_of}
use Rattle.wire_pattern_script.proofs.Mapped.{pushed, whole}
use Rattle.wire_pattern_script.proofs.numbers.numbered_roles.Goals as goal

pub loop-role-init : goal.loop-role-init
loop-role-init c = record { so_far = ap (map role_by) c.in_ok-numbered.ensures.items }

pub loop-role-preserved : goal.loop-role-preserved
loop-role-preserved c = record {
  so_far = rw c.in_ok-push.ensures.items (pushed role_by (role_of (declared_of c.args.draft.now)) draft_role_of c.loop-role.numbered.items c.args.roles.now c.loop-role.role-index c.in_ok-made.made c.role-item.result _ c.loop-role-test.true c.role-item.is
      c.loop-role.invariant.so_far c.in_ok-made.ensures);
}

pub returns : goal.returns
returns c = whole role_by (role_of (declared_of c.args.draft.now)) draft_role_of c.loop-role.numbered.items c.args.roles.now c.loop-role.role-index c.loop-role-test.false c.loop-role.invariant.so_far
