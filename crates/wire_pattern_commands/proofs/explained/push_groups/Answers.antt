use Rattle.std.proofs.Common.{◌≡◌, ◌++◌, subst}
use Rattle.std.specs.Prelude.{OnOk}
use Rattle.wire_pattern_commands.specs.FirstWait.{sizes_words}
use Rattle.wire_pattern_commands.proofs.explained.push_groups.Goals as goal

pub returns : goal.returns
returns c =
    subst (λ roles. OnOk c.push_sizes.result (c.push_sizes.new.out.items ≡ c.args.out.now.items ++ sizes_words roles c.args.sizes.now)) c.roles.ensures.roles
    c.push_sizes.ensures
