use Rattle.std.proofs.Common.{◌≡◌, ◌++◌, drop}
use Rattle.std.specs.List.{flat_map}
use Rattle.wire_commands.specs.Witnesses.{placed_race}
use Rattle.wire_command.specs.Answer.{rows_in}
use Rattle.wire_commands.proofs.witnesses.push_races.Given as goal

-- what is written, and the lines of the races that are left, are all lines
abbrev pub invariant-loop-one : goal.invariant-loop-one
invariant-loop-one l =
    l.fn.out.items ++ flat_map (placed_race l.places.name.now (rows_in l.places) l.scripts) l.tried
    ≡ l.out.items ++ flat_map (placed_race l.places.name.now (rows_in l.places) l.scripts) (drop l.one-index l.tried)
