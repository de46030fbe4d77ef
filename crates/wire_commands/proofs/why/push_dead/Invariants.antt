use Rattle.std.proofs.Common.{◌≡◌, ◌++◌, drop}
use Rattle.std.specs.List.{flat_map}
use Rattle.wire_commands.specs.Chains.{placed_dead}
use Rattle.wire_command.specs.Answer.{rows_in}
use Rattle.wire_commands.proofs.why.push_dead.Given as goal

-- what is written, and the lines of the calls that are left, are all lines
abbrev pub invariant-loop-call : goal.invariant-loop-call
invariant-loop-call l =
    l.fn.out.items ++ flat_map (placed_dead l.places.name.now (rows_in l.places) l.scripts) l.dead
    ≡ l.out.items ++ flat_map (placed_dead l.places.name.now (rows_in l.places) l.scripts) (drop l.call-index l.dead)
