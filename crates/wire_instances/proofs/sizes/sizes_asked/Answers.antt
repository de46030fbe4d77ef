use Rattle.std.proofs.Common.{◌∙◌, ap, sym, map, take_all}
use Rattle.wire_pattern.specs.Views.{role_by}
use Rattle.wire_instances.specs.Asked as spec
use Rattle.wire_instances.specs.Asked.{asked_by}
use Rattle.wire_instances.proofs.Leasts.{made_least}
use Rattle.wire_instances.proofs.sizes.sizes_asked.Goals as goal

pub returns-clause-least : goal.returns-clause-least
returns-clause-least c =
    let asked = map asked_by c.args.asked.now in
    let roles = c.roles-roles.result.now in
    made_least c.args.pattern.now asked (map role_by roles) c.loop-role.sizes.items c.roles-roles.ensures.sound c.roles-roles.ensures.roles (sym c.are_fit.ensures ∙ c.if-not-are_fit.false)
    (c.loop-role.invariant ∙ ap (λ rs. map (spec.size_asked asked) (map role_by rs)) (take_all c.loop-role.role-index roles c.loop-role-test.false))
