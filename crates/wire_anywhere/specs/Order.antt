-- How findings with their pairs stand in the list: for the contracts of private functions.
use Rattle.std.specs.Prelude.{ℕ, List}
use Rattle.std.specs.declared.cmp.Ordering.{Ordering}
use Rattle.std.specs.Ordering.{on}
use Rattle.wire_findings.specs.Standings.{told_cmp}
use Rattle.wire_anywhere.specs.declared.placed.PlacedFinding.{PlacedFinding}

-- as their findings do
abbrev pub placed_cmp : List (List ℕ) → PlacedFinding → PlacedFinding → Ordering
placed_cmp names = on (λ (t : PlacedFinding). t.finding) (told_cmp names)
