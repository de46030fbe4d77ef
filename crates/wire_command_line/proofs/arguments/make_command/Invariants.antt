use Rattle.std.proofs.Common.{◌≡◌, false, drop}
use Rattle.clap.specs.Words.{app_of}
use Rattle.clap.specs.declared.builder.command.Command.TheViews.{out-Command as fields_of}
use Rattle.wire_command_line.specs.Tables.{line_said, with_arguments}
use Rattle.wire_command_line.proofs.arguments.make_command.Given as goal

-- the command as it is, with the arguments that are left, is the whole command
abbrev pub invariant-loop-argument : goal.invariant-loop-argument
invariant-loop-argument l = record {
  whole : with_arguments (app_of l.line) (drop l.argument-index l.command.arguments.now) ≡ line_said l.command;
  local : (fields_of l.line).has_globals ≡ false;
}
