use Rattle.wire_lines.proofs.Joined.{spelt_more}
use Rattle.wire_pattern_lines.specs.Said.{spelled_proc, is_lawful_proc}
use Rattle.wire_pattern_lines.specs.Views.{proc_by}
use Rattle.wire_pattern_lines.proofs.Parts.{no_parts, lawful_more}
use Rattle.wire_pattern_lines.proofs.procs.procs_of.Goals as goal

pub returns-in_default-clause-none : goal.returns-in_default-clause-none
returns-in_default-clause-none c = no_parts spelled_proc is_lawful_proc c.args.parts.now c.loop-part.part-index _ c.loop-part-test.true c.in_default.ensures.none

pub loop-part-preserved : goal.loop-part-preserved
loop-part-preserved c = record {
  spelt = rw c.in_ok-push.ensures.items (spelt_more proc_by spelled_proc (λ w. w.now) c.loop-part.procs.items c.args.parts.now c.loop-part.part-index c.in-Some.proc _ c.loop-part-test.true
      c.loop-part.invariant.spelt c.in-Some.ensures.found.0);
  lawful = rw c.in_ok-push.ensures.items (lawful_more spelled_proc is_lawful_proc proc_by c.loop-part.procs.items c.in-Some.proc c.loop-part.invariant.lawful c.in-Some.ensures.found.1);
}
