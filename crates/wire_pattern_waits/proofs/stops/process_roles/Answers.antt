use Rattle.std.proofs.Common.{◌∙◌, ap}
use Rattle.wire_pattern.specs.Instances.{roles_from}
use Rattle.wire_instances.specs.Views.{cast_by}
use Rattle.wire_pattern_waits.proofs.Walks.{few_roles}
use Rattle.wire_pattern_waits.proofs.stops.process_roles.Goals as goal

pub returns-clause-few : goal.returns-clause-few
returns-clause-few c =
    few_roles c.args.pattern.now (cast_by c.args.cast.now) c.in_ok-roles.roles.items c.requires (c.in_ok-roles.ensures ∙ ap (roles_from 0) c.as_slice.ensures.value)
