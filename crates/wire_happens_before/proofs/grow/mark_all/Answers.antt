use Rattle.std.proofs.Common.{subst}
use Rattle.wire_scripts.specs.Planned.{plan_of}
use Rattle.wire_happens_before.specs.Clocks.{AreMarks}
use Rattle.wire_happens_before.specs.Meeting.{plan_in}
use Rattle.wire_happens_before.proofs.Growing.{marks_whole}
use Rattle.wire_happens_before.proofs.grow.mark_all.Goals as goal

pub returns : goal.returns
returns c =
    let growth = c.mark_ready.new.growth in
    record {
      marks = subst (λ s. AreMarks (plan_of s) growth.clocks) c.mark_ready.ensures.plan
          (marks_whole (plan_in growth) growth.clocks c.in_ok-mark_ready.ensures.growing.marked c.in_ok-mark_ready.ensures.stuck);
      few = c.in_ok-mark_ready.ensures.growing.marked.based.few;
    }
