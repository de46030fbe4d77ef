use Rattle.std.proofs.Common.{refl}
use Rattle.std.specs.List.{flat_map}
use Rattle.wire_commands.specs.Witnesses.{placed_race}
use Rattle.wire_commands.proofs.Listed.{one_more_line}
use Rattle.wire_command.specs.Answer.{rows_in}
use Rattle.wire_commands.proofs.witnesses.push_races.Goals as goal

pub loop-one-preserved : goal.loop-one-preserved
loop-one-preserved c =
    let line = placed_race c.args.places.name.now (rows_in c.args.places) c.args.scripts.now in
    one_more_line (flat_map line) line c.args.tried.now c.loop-one.one-index _ _ c.loop-one.out.items _ (λ one later. refl) c.loop-one-test.true c.loop-one.invariant c.in_ok-push_race.ensures
