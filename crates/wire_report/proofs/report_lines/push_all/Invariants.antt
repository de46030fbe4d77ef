use Rattle.std.proofs.Common.{◌≡◌, ◌++◌}
use Rattle.std.specs.Iterator.Adapters.{zip_first, zip_second}
use Rattle.std.specs.Slice.Iter.{iter_rest}
use Rattle.wire_types.specs.Texts.{lists_of}
use Rattle.wire_report.specs.Report.{all_lines}
use Rattle.wire_report.proofs.report_lines.push_all.Given as goal

-- what is written, and the lines of the processes that are left, are all lines
abbrev pub invariant-loop-process : goal.invariant-loop-process
invariant-loop-process l =
    l.out.items ++ all_lines l.scripts (iter_rest (zip_first l.process-iterator)) (lists_of (iter_rest (zip_second l.process-iterator)))
    ≡ l.fn.out.items ++ all_lines l.scripts l.scripts.processes (lists_of l.rows)
