-- What is read of a plan's bytes.
use Rattle.std.specs.Prelude.{◌≡◌, ℕ, Bool, true, false, List, []}
use Rattle.wire_reader.specs.declared.Size.{Size}
use Rattle.wire_reader.specs.Located.{AreCallLines}

-- the lines that are read of a text: where places are told those of its calls, else none
abbrev pub AreLinesIn : (places : Bool) → Size → List ℕ → List (List ℕ) → Type 0
AreLinesIn false size bytes rows = rows ≡ []
AreLinesIn true size bytes rows = AreCallLines size bytes rows
