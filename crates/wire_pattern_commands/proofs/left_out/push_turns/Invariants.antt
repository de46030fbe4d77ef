use Rattle.std.proofs.Common.{◌≡◌, ◌++◌, drop}
use Rattle.wire_pattern_commands.specs.LeftOut.{turns_text}
use Rattle.wire_pattern_commands.proofs.left_out.push_turns.Given as goal

abbrev pub invariant-loop-turn : goal.invariant-loop-turn
invariant-loop-turn l = l.out.items ++ turns_text l.scripts (drop l.turn-index l.turns) ≡ l.fn.out.items ++ turns_text l.scripts l.turns
