use Rattle.std.proofs.Common.{◌≡◌, ◌++◌, subst}
use Rattle.std.specs.Prelude.{OnOk}
use Rattle.std.specs.List.{flat_map}
use Rattle.wire_pattern_commands.specs.AtLeast.{least_line}
use Rattle.wire_pattern_commands.proofs.least.write_least.Goals as goal

pub returns : goal.returns
returns c =
    subst (λ roles. OnOk c.write_roles.result (c.write_roles.new.out.items ≡ c.args.out.now.items ++ flat_map least_line roles)) c.roles.ensures.roles
    c.write_roles.ensures
