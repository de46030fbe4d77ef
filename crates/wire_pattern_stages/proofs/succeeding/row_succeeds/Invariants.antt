use Rattle.std.proofs.Common.{◌≡◌, drop}
use Rattle.std.specs.List.{list_all}
use Rattle.wire_pattern_stages.specs.Succeeding.{succeeds}
use Rattle.wire_pattern_stages.proofs.succeeding.row_succeeds.Given as goal

abbrev pub invariant-loop-end : goal.invariant-loop-end
invariant-loop-end l = list_all succeeds (drop l.end-index l.row) ≡ list_all succeeds l.row
