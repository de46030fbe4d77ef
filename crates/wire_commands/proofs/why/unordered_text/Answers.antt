use Rattle.std.proofs.Common.{◌∙◌}
use Rattle.wire_commands.specs.Chains.{unordered_form}
use Rattle.wire_command.specs.Answer.{rows_in}
use Rattle.wire_types.specs.Forms.{is_json}
use Rattle.wire_commands.proofs.why.unordered_text.Goals as goal

pub returns-clause-ok : goal.returns-clause-ok
returns-clause-ok c =
    let held = rw c.plan.ensures at c.scripts.ensures.scripts in (
      c.in_ok-dead.dead.items,
      c.in_ok-dead.ensures,
      c.in_ok-text.ensures
          ∙ (λ i. unordered_form (is_json c.args.telling.form) c.args.telling.places.name.now (rows_in c.args.telling.places) (held i) (c.as_slice.ensures.value i)),
    )
