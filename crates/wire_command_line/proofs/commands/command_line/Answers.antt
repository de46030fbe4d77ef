use Rattle.std.proofs.Common.{◌≡◌, rules, refl, length}
use Rattle.clap.specs.Words.{with_subcommand}
use Rattle.wire_command_line.specs.Tables.{line_said}
use Rattle.wire_command_line.proofs.Lines.{folded_all, folded_on}
use Rattle.wire_command_line.proofs.commands.command_line.Goals as goal

pub loop-command-preserved : goal.loop-command-preserved
loop-command-preserved c =
    let at = c.loop-command in
    let eight : length c.commands.result ≡ 8 = search rules in
    let grown = c.in_ok-line.ensures _ (record { is = refl; local = at.invariant.local }) in
    record {
      whole = folded_on (λ app command. with_subcommand app (line_said command).top) c.commands.result at.command-index _ _ _ _ (rw eight c.loop-command-test.true) grown.is at.invariant.whole;
      local = grown.local;
    }

pub returns : goal.returns
returns c =
    let eight : length c.commands.result ≡ 8 = search rules in
    folded_all (λ app command. with_subcommand app (line_said command).top) c.commands.result c.loop-command.command-index _ _ (rw eight c.loop-command-test.false) c.loop-command.invariant.whole
