use Rattle.std.proofs.Common.{◌+◌, ◌-◌, ◌/◌, ◌<◌, length, map, arith}
use Rattle.wire_runs.specs.Plan.{event_of}
use Rattle.wire_scripts.specs.Planned.{plan_of}
use Rattle.wire_fates.proofs.Places.{place_at}
use Rattle.wire_portable.proofs.Sharing.{ended_front}
use Rattle.wire_portable.proofs.mates.ended_count.Goals as goal

pub bisection-preserved-then-ends_first : goal.bisection-preserved-then-ends_first
bisection-preserved-then-ends_first c =
    let low = c.bisection.low in
    let high = c.bisection.high in
    let lt = c.bisection-test.true in
    let within = c.bisection.invariant.within in
    let fits : low + (high - low) / 2 < length c.args.gets.now = omega (arith, lt, within) in
    record {
      order = omega (arith, lt);
      within = within;
      ended = ended_front (plan_of c.args.judge.now) c.requires.turns.0 (event_of c.args.get) (map event_of c.args.gets.now) c.requires.turns.1 c.requires.asked
          (low + (high - low) / 2) (low + (high - low) / 2 + 1) _ (omega arith) (place_at c.args.gets.now (low + (high - low) / 2) _ fits) (rw c.marked.ensures at (c.ends_first.ensures.0 c.if-ends_first.true));
    }
