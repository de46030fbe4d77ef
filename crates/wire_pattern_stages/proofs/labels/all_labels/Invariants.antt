use Rattle.std.proofs.Common.{◌≡◌, ◌++◌, drop}
use Rattle.wire_instances.specs.Views.{cast_by}
use Rattle.wire_pattern_stages.specs.Lines.{rows_labels}
use Rattle.wire_pattern_stages.specs.Tables.{rows_by}
use Rattle.wire_pattern_stages.proofs.labels.all_labels.Given as goal

abbrev pub invariant-loop-number : goal.invariant-loop-number
invariant-loop-number l =
    rows_by l.rows.items ++ rows_labels l.pattern (cast_by l.cast) l.number (drop l.number l.roles) ≡ rows_labels l.pattern (cast_by l.cast) 0 l.roles
