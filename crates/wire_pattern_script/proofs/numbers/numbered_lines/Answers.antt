use Rattle.std.proofs.Common.{ap, map}
use Rattle.wire_pattern_script.specs.Numbers.{line_of}
use Rattle.wire_pattern.specs.Views.{line_by}
use Rattle.wire_pattern_script.specs.Drafted.{placed_of}
use Rattle.wire_pattern_script.specs.Drafted.{declared_of}
use Rattle.wire_pattern_script.proofs.Mapped.{pushed, whole}
use Rattle.wire_pattern_script.proofs.numbers.numbered_lines.Goals as goal

pub loop-line-init : goal.loop-line-init
loop-line-init c = record { so_far = ap (map line_by) c.in_ok-numbered.ensures.items }

pub loop-line-preserved : goal.loop-line-preserved
loop-line-preserved c = record {
  so_far = rw c.in_ok-push.ensures.items (pushed line_by (line_of (declared_of c.args.draft.now) c.args.job) placed_of c.loop-line.numbered.items c.args.lines.now c.loop-line.line-index c.in_ok-made.made c.line-item.result _ c.loop-line-test.true c.line-item.is
      c.loop-line.invariant.so_far c.in_ok-made.ensures);
}

pub returns : goal.returns
returns c = whole line_by (line_of (declared_of c.args.draft.now) c.args.job) placed_of c.loop-line.numbered.items c.args.lines.now c.loop-line.line-index c.loop-line-test.false c.loop-line.invariant.so_far
