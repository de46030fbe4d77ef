use Rattle.std.proofs.Common.{arith}
use Rattle.wire_plan.proofs.Planning.{count_fits}
use Rattle.wire_portable.proofs.nows.end_of.Goals as goal

pub overflow_add-result : goal.overflow_add-result
overflow_add-result c =
    let lt = c.requires in
    let few = count_fits c.args.plan.now c.args.arrival.proc.number c.scripts.ensures.sound.counted.few_calls in
    record { fits = omega (arith, lt, few) }
