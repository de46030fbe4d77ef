use Rattle.std.proofs.Common.{inr, ap, length}
use Rattle.wire_command.specs.declared.ended.Ended.TheVariants.{Found}
use Rattle.wire_instances.specs.Views.{cast_by}
use Rattle.wire_pattern_commands.proofs.check.answer_found.Goals as goal

pub returns-clause-ok : goal.returns-clause-ok
returns-clause-ok c =
    let found = c.args.found.now in
    inr (record {
      cast = cast_by found.cast;
      plan_text = found.text.items;
      scripts = found.plan;
      found = found.findings.items;
      shows = c.requires;
      ends = ap (λ fs. Found (length fs)) c.as_slice.ensures.value;
      is = c.in_ok-text.ensures;
    })
