use Rattle.std.proofs.Common.{rules}
use Rattle.std.proofs.KnownBytes.{Appends-trans}
use Rattle.wire_types.proofs.Known.{take-rest}
use Rattle.wire_types.proofs.sink.write_out.Goals as goal

pub loop-done-preserved : goal.loop-done-preserved
loop-done-preserved g c = record {
  within = search rules;
  out = rw (take-rest c.loop-done.done c.in-Ok.n c.args.text.now) (Appends-trans _ _ _ _ _ c.loop-done.invariant.out c.in-Ok.ensures.bytes);
  quiet = search rules;
}
