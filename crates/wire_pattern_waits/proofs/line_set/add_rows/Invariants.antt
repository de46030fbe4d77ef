use Rattle.std.proofs.Common.{◌≡◌, ℕ, length}
use Rattle.wire_types.specs.Texts.{lists_of}
use Rattle.wire_pattern_waits.specs.LineSets.{has_line}
use Rattle.wire_pattern_waits.proofs.line_set.add_rows.Given as goal

abbrev pub invariant-loop-row : goal.invariant-loop-row
invariant-loop-row l =
    (length l.rows.items ≡ l._row)
    × ((role line : ℕ) → has_line (lists_of l.rows.items) role line ≡ has_line (lists_of l.fn.rows.items) role line)
