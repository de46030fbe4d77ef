use Rattle.std.proofs.Common.{map, arith}
use Rattle.std.proofs.lemmas.List.{length-map}
use Rattle.wire_runs.specs.Plan.{event_of}
use Rattle.wire_races.proofs.Lists.{both_parts}
use Rattle.wire_races.proofs.Rivals.{cut_above}
use Rattle.wire_races.proofs.name_races.calls_above.Goals as goal

pub returns : goal.returns
returns c = λ plan name are.
    let calls = c.args.calls.now in
    let front = c.split_at.result.0.now in
    let rest = c.split_at.result.1.now in
    let shown = length-map front event_of in
    let size = c.split_at.ensures.front_len in
    cut_above c.args.proc.number (map event_of calls) (map event_of front) (map event_of rest) c.count_upto.result
    (both_parts calls front rest c.count_upto.result c.split_at.ensures.front c.split_at.ensures.back) (omega (arith, shown, size))
    (c.count_upto.ensures.cut plan name are)
