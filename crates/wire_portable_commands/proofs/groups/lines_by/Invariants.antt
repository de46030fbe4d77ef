use Rattle.std.proofs.Common.{◌≡◌, take}
use Rattle.wire_portable_commands.specs.Lines.{lines_by}
use Rattle.wire_portable_commands.proofs.groups.lines_by.Given as goal

-- the calls so far that are blamed by the rule
abbrev pub invariant-loop-line : goal.invariant-loop-line
invariant-loop-line l = l.those.items ≡ lines_by l.rule (take l.line-index l.lines)
