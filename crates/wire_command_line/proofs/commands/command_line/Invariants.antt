use Rattle.std.proofs.Common.{◌≡◌, false, drop}
use Rattle.clap.specs.Words.{app_of}
use Rattle.clap.specs.declared.builder.command.Command.TheViews.{out-Command as fields_of}
use Rattle.wire_command_line.specs.CommandLine.{program_line}
use Rattle.wire_command_line.specs.Tables.{with_commands}
use Rattle.wire_command_line.proofs.commands.command_line.Given as goal

-- the program as it is, with the commands that are left, is the whole program
abbrev pub invariant-loop-command : goal.invariant-loop-command
invariant-loop-command l = record {
  whole : with_commands (app_of l.line) (drop l.command-index l.command-items) ≡ program_line;
  local : (fields_of l.line).has_globals ≡ false;
}
