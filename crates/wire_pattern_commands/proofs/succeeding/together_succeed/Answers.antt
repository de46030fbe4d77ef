use Rattle.std.proofs.Common.{◌∙◌, ap}
use Rattle.wire_scripts.specs.Placed.{placed}
use Rattle.wire_scripts.specs.Scripts.{numbers_of}
use Rattle.wire_pattern_stages.specs.Succeeding.{all_succeed}
use Rattle.wire_pattern_commands.proofs.succeeding.together_succeed.Goals as goal

pub returns-clause-ok : goal.returns-clause-ok
returns-clause-ok c =
    c.in_ok-succeed.ensures.ok
    ∙ ap all_succeed (c.in_ok-placed.ensures.scripts
    ∙ ap (λ ranks. placed c.args.scripts (numbers_of ranks)) (c.as_slice.ensures.value ∙ c.new-none.ensures.items))
