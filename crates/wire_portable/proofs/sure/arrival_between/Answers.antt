use Rattle.std.proofs.Common.{arith}
use Rattle.wire_fates.proofs.Places.{place_at}
use Rattle.wire_portable.proofs.sure.arrival_between.Goals as goal

pub returns-then-arrival-proc : goal.returns-then-arrival-proc
returns-then-arrival-proc c = record {
  k = c.partition_point-place.result;
  is = (let past = c.if-place-arrivals.false in place_at c.args.arrivals.now c.partition_point-place.result _ (omega (arith, past)));
  proc = c.if-arrival-proc.true;
}
