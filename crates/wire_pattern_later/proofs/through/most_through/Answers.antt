use Rattle.std.proofs.Common.{◌∙◌, ap, sym, length, arith}
use Rattle.std.proofs.lemmas.List.{length-map}
use Rattle.wire_pattern.specs.Views.{role_by}
use Rattle.wire_pattern_later.specs.Through.{group_count}
use Rattle.wire_pattern_later.proofs.Loops.{most_step, role_there}
use Rattle.wire_pattern_later.proofs.through.most_through.Goals as goal

pub loop-number-preserved : goal.loop-number-preserved
loop-number-preserved c =
    let roles = c.roles-roles.result.now in
    let n = c.loop-number.number in
    let role = c.index-roles-number.result in
    let lt = c.loop-number-test.true in
    let count = sym (length-map roles role_by) ∙ ap length c.roles-roles.ensures.roles in
    most_step c.args.pattern.now.roles n (role_by role) c.loop-number.most c.in_ok-group_count.field-0 c.max-most.result _ (omega (arith, lt, count))
    (role_there c.args.pattern.now.roles roles n role c.roles-roles.ensures.roles lt c.index-roles-number.is)
    (c.in_ok-group_count.ensures ∙ ap (λ rs. group_count rs n (role_by role)) c.roles-roles.ensures.roles) c.max-most.ensures c.loop-number.invariant
