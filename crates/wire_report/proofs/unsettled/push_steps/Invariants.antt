use Rattle.std.proofs.Common.{◌≡◌, ◌++◌, drop}
use Rattle.std.specs.List.{flat_map}
use Rattle.wire_scripts.specs.Scripts.{numbers_of}
use Rattle.wire_report.specs.Unsettled.{step_line}
use Rattle.wire_report.proofs.unsettled.push_steps.Given as goal

-- what is written, and the lines of the steps that are left, are all lines
abbrev pub invariant-loop-proc : goal.invariant-loop-proc
invariant-loop-proc l = l.fn.out.items ++ flat_map (step_line l.scripts) (numbers_of l.order) ≡ l.out.items ++ flat_map (step_line l.scripts) (numbers_of (drop l.proc-index l.order))
