-- The words of a line say one thing.
use Rattle.std.specs.Prelude.{◌≡◌, ℕ, List}
use Rattle.wire_pattern_lines.specs.Said.{Said, Says}

abbrev pub SaysOnce : Type 0
SaysOnce = (words : List (List ℕ)) (a b : Said) → Says words a → Says words b → a ≡ b
