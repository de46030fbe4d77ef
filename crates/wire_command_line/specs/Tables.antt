-- The commands of a table, as `clap` reads them.
use Rattle.std.specs.Prelude.{List, fold}
use Rattle.clap.specs.Words.{App, Rule, Text, new_app, with_rule, with_subcommand}
use Rattle.wire_command_line.specs.CommandLine.{flag, needed_word, option_with_word, optional_word}
use Rattle.wire_command_line.specs.declared.arguments.Argument.{Argument}
use Rattle.wire_command_line.specs.declared.arguments.Kind.{Kind}
use Rattle.wire_command_line.specs.declared.arguments.Kind.TheVariants.{Word, NeededWord, Flag, Number, Groups, Way}
use Rattle.wire_command_line.specs.declared.arguments.Subcommand.{Subcommand}

-- what an argument of each kind is
abbrev pub rule_of_kind : Kind → Text → Rule
rule_of_kind Word name = optional_word name
rule_of_kind NeededWord name = needed_word name
rule_of_kind Flag name = flag name
rule_of_kind Number name = option_with_word name
rule_of_kind Groups name = option_with_word name
rule_of_kind Way name = option_with_word name

abbrev pub rule_said : Argument → Rule
rule_said argument = rule_of_kind argument.kind argument.name.now

-- a command with more arguments
abbrev pub with_arguments : App → List Argument → App
with_arguments line arguments = fold (λ app argument. with_rule app (rule_said argument)) line arguments

abbrev pub line_said : Subcommand → App
line_said command = with_arguments (new_app command.name.now) command.arguments.now

-- a program with more commands
abbrev pub with_commands : App → List Subcommand → App
with_commands line commands = fold (λ app command. with_subcommand app (line_said command).top) line commands
