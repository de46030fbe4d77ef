use Rattle.std.proofs.Common.{refl}
use Rattle.std.specs.List.{flat_map}
use Rattle.wire_commands.specs.Chains.{placed_dead}
use Rattle.wire_commands.proofs.Listed.{one_more_line}
use Rattle.wire_command.specs.Answer.{rows_in}
use Rattle.wire_commands.proofs.why.push_dead.Goals as goal

pub loop-call-preserved : goal.loop-call-preserved
loop-call-preserved c =
    let line = placed_dead c.args.places.name.now (rows_in c.args.places) c.args.scripts.now in
    one_more_line (flat_map line) line c.args.dead.now c.loop-call.call-index _ _ c.loop-call.out.items _ (λ call later. refl) c.loop-call-test.true c.loop-call.invariant
    c.in_ok-push_placed_dead.ensures
