use Rattle.std.proofs.Common.{ap, ◌∙◌, refl}
use Rattle.clap.specs.Simple.{app_of_fields}
use Rattle.clap.specs.Words.{with_rule}
use Rattle.wire_command_line.specs.Tables.{rule_said, with_arguments}
use Rattle.wire_command_line.proofs.Lines.{folded_all, folded_on, with_argument}
use Rattle.wire_command_line.proofs.arguments.make_command.Goals as goal

pub loop-argument-init : goal.loop-argument-init
loop-argument-init c = record {
  whole = ap (λ app. with_arguments app c.args.command.arguments.now) (ap app_of_fields c.about-line.ensures ∙ c.new.ensures.app);
  local = (λ i. (c.about-line.ensures i).has_globals) ∙ c.new.ensures.local;
}

pub loop-argument-preserved : goal.loop-argument-preserved
loop-argument-preserved c =
    let at = c.loop-argument in
    let grown = with_argument at.line c.in_ok-line.line c.make_argument.result _ _ c.in_ok-line.ensures (record { is = refl; local = at.invariant.local })
    c.make_argument.ensures.rule c.make_argument.ensures.local in
    record {
      whole = folded_on (λ app argument. with_rule app (rule_said argument)) c.args.command.arguments.now at.argument-index _ _ _ _ c.loop-argument-test.true grown.is at.invariant.whole;
      local = grown.local;
    }

pub returns : goal.returns
returns c = record {
  is = folded_all (λ app argument. with_rule app (rule_said argument)) c.args.command.arguments.now c.loop-argument.argument-index _ _ c.loop-argument-test.false c.loop-argument.invariant.whole;
  local = c.loop-argument.invariant.local;
}
