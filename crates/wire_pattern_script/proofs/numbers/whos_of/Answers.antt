use Rattle.std.proofs.Common.{ap, refl, map}
use Rattle.wire_pattern_script.specs.Numbers.{who_of}
use Rattle.wire_pattern.specs.Views.{who_by}
use Rattle.wire_pattern_lines.specs.Views.{proc_by}
use Rattle.wire_pattern_script.specs.Drafted.{declared_of}
use Rattle.wire_pattern_script.proofs.Mapped.{pushed, whole}
use Rattle.wire_pattern_script.proofs.numbers.whos_of.Goals as goal

pub loop-proc-init : goal.loop-proc-init
loop-proc-init c = record { so_far = ap (map who_by) c.in_ok-whos.ensures.items }

pub loop-proc-preserved : goal.loop-proc-preserved
loop-proc-preserved c = record {
  so_far = rw c.in_ok-push.ensures.items (pushed who_by (who_of (declared_of c.args.draft.now)) proc_by c.loop-proc.whos.items c.args.procs.now c.loop-proc.proc-index c.who_of-made.result _ _ c.loop-proc-test.true refl
      c.loop-proc.invariant.so_far c.who_of-made.ensures);
}

pub returns : goal.returns
returns c = whole who_by (who_of (declared_of c.args.draft.now)) proc_by c.loop-proc.whos.items c.args.procs.now c.loop-proc.proc-index c.loop-proc-test.false c.loop-proc.invariant.so_far
