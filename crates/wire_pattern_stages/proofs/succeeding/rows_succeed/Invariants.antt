use Rattle.std.proofs.Common.{◌≡◌, drop}
use Rattle.std.specs.List.{list_all}
use Rattle.wire_types.specs.Texts.{lists_of}
use Rattle.wire_pattern_stages.specs.Succeeding.{succeeds}
use Rattle.wire_pattern_stages.proofs.succeeding.rows_succeed.Given as goal

abbrev pub invariant-loop-row : goal.invariant-loop-row
invariant-loop-row l = list_all (list_all succeeds) (lists_of (drop l.row-index l.rows)) ≡ list_all (list_all succeeds) (lists_of l.rows)
