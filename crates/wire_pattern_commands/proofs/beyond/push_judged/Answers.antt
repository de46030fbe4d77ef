use Rattle.std.proofs.Common.{◌≡◌, ◌++◌, subst}
use Rattle.std.specs.Prelude.{OnOk}
use Rattle.wire_pattern_commands.specs.Beyond.{judged_words}
use Rattle.wire_pattern_commands.proofs.beyond.push_judged.Goals as goal

pub returns : goal.returns
returns c =
    subst (λ roles. OnOk c.push_roles.result (c.push_roles.new.out.items ≡ c.args.out.now.items ++ judged_words roles)) c.roles.ensures.roles c.push_roles.ensures
