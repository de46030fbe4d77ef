use Rattle.std.proofs.Common.{◌≡◌, length, Some, slice_get, arith, ap, refl}
use Rattle.std.proofs.lemmas.Grind.{common_steps}
use Rattle.std.proofs.lemmas.Option.{slice_get_read}
use Rattle.wire_report.proofs.Room.{one_more_process, no_more_processes}
use Rattle.wire_report.proofs.streaming.longest_process.Goals as goal

pub loop-process-preserved : goal.loop-process-preserved
loop-process-preserved c =
    let there : slice_get c.processes-process-items.result.now c.loop-process.process-index ≡ Some c.process-item.result =
    slice_get_read c.processes-process-items.result.now (length c.processes-process-items.result.now) c.loop-process.process-index c.process-item.result refl c.loop-process-test.true
    c.process-item.is in
    one_more_process c.args.scripts.now c.loop-process.process-index c.loop-process.longest c.max-longest.result c.process-item.result c.processes-process-items.ensures.sound
    (rw c.processes-process-items.ensures.processes at there)
    c.loop-process.invariant (grind (arith, common_steps)) (grind (arith, common_steps))

pub returns : goal.returns
returns c =
    no_more_processes c.args.scripts.now c.loop-process.process-index c.loop-process.longest (omega (arith, c.loop-process-test.false, ap length c.processes-process-items.ensures.processes))
    c.loop-process.invariant
