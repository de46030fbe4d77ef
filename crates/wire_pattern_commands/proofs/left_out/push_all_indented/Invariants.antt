use Rattle.std.proofs.Common.{◌≡◌, ◌++◌, drop}
use Rattle.std.specs.List.{flat_map}
use Rattle.wire_pattern_commands.specs.LeftOut.{indented_turn}
use Rattle.wire_pattern_commands.proofs.left_out.push_all_indented.Given as goal

abbrev pub invariant-loop-turn : goal.invariant-loop-turn
invariant-loop-turn l =
    l.out.items ++ flat_map (indented_turn l.scripts) (drop l.turn-index l.turns) ≡ l.fn.out.items ++ flat_map (indented_turn l.scripts) l.turns
