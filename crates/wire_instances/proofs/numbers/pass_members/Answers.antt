use Rattle.std.proofs.Common.{◌∙◌, ◌+◌, ◌<◌, ap, length, drop, arith}
use Rattle.std.proofs.lemmas.Grind.{common_steps}
use Rattle.wire_pattern.specs.Instances.{members_lines, roles_from}
use Rattle.wire_instances.specs.Search.{past}
use Rattle.wire_instances.specs.Tables.{first_of}
use Rattle.wire_instances.proofs.Loops.{job_is, job_differs, members_numbers, numbers_skip}
use Rattle.wire_instances.proofs.numbers.pass_members.Goals as goal
use Rattle.wire_instances.proofs.numbers.pass_members.Goals.{then-role-job+in_ok-pass_role, else-role-job}

pub loop-number-preserved : goal.loop-number-preserved
loop-number-preserved c =
    let f = c.args.frame.now in
    let n = c.loop-number.number in
    let roles = c.roles-roles.result.now in
    let is = c.roles-roles.ensures.roles ∙ ap (λ p. p.roles) c.pattern.ensures in
    let there : n < length f.cast.sizes = grind (arith, common_steps) in
    let in_roles : n < length roles = grind (arith, common_steps) in
    elim c.if-role-job.branch [
      | then-role-job+in_ok-pass_role w ↦
          members_numbers f.pattern f.cast c.args.job n c.loop-number.search _ _ there
          (job_is f.pattern roles n c.index-roles-number.result c.args.job is in_roles c.index-roles-number.is w.if-role-job.true)
          (w.search-is ∙ w.in_ok-pass_role.ensures) c.loop-number.invariant
      | else-role-job w ↦
          ap (λ s. past s (members_lines f.pattern f.cast c.args.job (first_of f.cast.sizes (n + 1)) (roles_from (n + 1) (drop (n + 1) f.cast.sizes))))
          w.search-is
          ∙ numbers_skip f.pattern f.cast c.args.job n c.loop-number.search _ there
          (job_differs f.pattern roles n c.index-roles-number.result c.args.job is in_roles c.index-roles-number.is w.if-role-job.false) c.loop-number.invariant
    ]
