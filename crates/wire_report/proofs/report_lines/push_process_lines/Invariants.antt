use Rattle.std.proofs.Common.{◌≡◌, ◌++◌, ◌+◌}
use Rattle.std.specs.Iterator.Adapters.{zip_first, zip_second, enumerate_source, enumerate_count}
use Rattle.std.specs.Slice.Iter.{iter_rest}
use Rattle.wire_report.specs.Report.{process_lines, lines_from}
use Rattle.wire_report.proofs.report_lines.push_process_lines.Given as goal

-- what is written, and the lines of the calls that are left, are all lines
abbrev pub invariant-loop-i : goal.invariant-loop-i
invariant-loop-i l =
    l.out.items ++ lines_from l.scripts l.process (enumerate_count l.i-iterator + 1) (iter_rest (zip_first (enumerate_source l.i-iterator))) (iter_rest (zip_second (enumerate_source l.i-iterator)))
    ≡ l.fn.out.items ++ process_lines l.scripts l.process l.ends
