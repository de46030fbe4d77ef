use Rattle.std.proofs.Common.{◌≡◌, ◌++◌, map, drop}
use Rattle.wire_commands.specs.Witnesses.{words_of}
use Rattle.wire_commands.proofs.witnesses.words_of.Given as goal

-- the words that are made, and those of the races that are left, are all words
abbrev pub invariant-loop-one : goal.invariant-loop-one
invariant-loop-one l = map (λ line. line.items) l.lines.items ++ words_of l.scripts (drop l.one-index l.tried) ≡ words_of l.scripts l.tried
