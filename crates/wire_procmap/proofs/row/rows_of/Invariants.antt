use Rattle.std.proofs.Common.{◌≡◌, map, take}
use Rattle.std.specs.List.{range_with_len}
use Rattle.wire_procmap.specs.Rows.{row_of}
use Rattle.wire_procmap.specs.Tallies.{AreCounts}
use Rattle.wire_procmap.proofs.row.rows_of.Given as goal

abbrev pub invariant-loop-index : goal.invariant-loop-index
invariant-loop-index l = record {
  made : l.made.items ≡ map (row_of l.processes) (range_with_len 0 l.index);
  counts : AreCounts (take l.index l.processes) l.counts;
}
