use Rattle.std.proofs.Common.{◌≡◌, ◌++◌, length}
use Rattle.wire_types.specs.Texts.{lists_of}
use Rattle.wire_pattern_commands.specs.Strings.{line_strings}
use Rattle.wire_pattern_commands.proofs.strings.line_strings.Given as goal

-- the strings that are made, and those of what is left, are all of them
abbrev pub invariant-lines : goal.invariant-lines
invariant-lines l = lists_of l.strings.items ++ line_strings l.rest ≡ line_strings l.text

abbrev pub decreases-lines : goal.decreases-lines
decreases-lines l = length l.rest
