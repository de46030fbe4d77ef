use Rattle.std.proofs.Common.{◌∙◌, ◌++◌, ◌+◌, ◌<◌, ap, length, take, drop, flat_map, arith}
use Rattle.std.proofs.lemmas.Grind.{common_steps}
use Rattle.wire_scripts.specs.Canonical.{line_text}
use Rattle.wire_pattern.specs.Instances.{members_said, roles_from}
use Rattle.wire_instances.specs.Tables.{first_of}
use Rattle.wire_instances.proofs.Loops.{job_is, job_differs, members_step, members_skip}
use Rattle.wire_instances.proofs.text.write_members.Goals as goal
use Rattle.wire_instances.proofs.text.write_members.Goals.{then-role-job+in_ok-write_role, else-role-job}

pub loop-number-preserved : goal.loop-number-preserved
loop-number-preserved c =
    let f = c.args.excerpt.now.frame in
    let n = c.loop-number.number in
    let roles = c.roles-roles.result.now in
    let is = c.roles-roles.ensures.roles ∙ ap (λ p. p.roles) c.pattern.ensures in
    let there : n < length f.cast.sizes = grind (arith, common_steps) in
    let in_roles : n < length roles = grind (arith, common_steps) in
    elim c.if-role-job.branch [
      | then-role-job+in_ok-write_role w ↦
          members_step f.pattern f.cast c.args.job n c.args.excerpt.now.wanted c.loop-number.out.items _ _ there
          (job_is f.pattern roles n c.index-roles-number.result c.args.job is in_roles c.index-roles-number.is w.if-role-job.true)
          (ap (λ v. take c.args.excerpt.now.wanted v.items) w.out-is ∙ w.in_ok-write_role.ensures) c.loop-number.invariant
      | else-role-job w ↦
          ap (λ v. take c.args.excerpt.now.wanted (v.items ++ flat_map line_text (members_said f.pattern f.cast c.args.job (first_of f.cast.sizes (n + 1))
          (roles_from (n + 1) (drop (n + 1) f.cast.sizes))))) w.out-is
          ∙ members_skip f.pattern f.cast c.args.job n c.args.excerpt.now.wanted c.loop-number.out.items _ there
          (job_differs f.pattern roles n c.index-roles-number.result c.args.job is in_roles c.index-roles-number.is w.if-role-job.false) c.loop-number.invariant
    ]
