use Rattle.std.proofs.Common.{◌≡◌, drop}
use Rattle.wire_portable.specs.Libraries.{either}
use Rattle.wire_portable_commands.specs.Words.{blamed_in}
use Rattle.wire_portable_commands.proofs.words.blamed_in.Given as goal

-- the libraries of the lines so far, and those of the lines that are left, are those of all
abbrev pub invariant-loop-line : goal.invariant-loop-line
invariant-loop-line l = either l.blamed (blamed_in (drop l.line-index l.lines)) ≡ blamed_in l.lines
