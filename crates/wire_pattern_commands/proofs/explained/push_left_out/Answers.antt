use Rattle.std.proofs.Common.{◌≡◌, ◌++◌, subst}
use Rattle.std.specs.Prelude.{OnOk}
use Rattle.wire_pattern_commands.specs.LeftOut.{left_part}
use Rattle.wire_pattern_commands.proofs.explained.push_left_out.Goals as goal

pub returns : goal.returns
returns c =
    subst (λ turns. OnOk c.push_left.result (c.push_left.new.out.items ≡ c.args.out.now.items ++ left_part c.args.first.now.plan turns)) c.as_slice.ensures.value
    (subst (λ scripts. OnOk c.push_left.result (c.push_left.new.out.items ≡ c.args.out.now.items ++ left_part scripts c.as_slice.result.now)) c.scripts.ensures.scripts
    c.push_left.ensures)
