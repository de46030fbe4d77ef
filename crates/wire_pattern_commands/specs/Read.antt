-- The pattern that was to come from the reader.
use Rattle.std.specs.Prelude.{◌≡◌, ◌⊎◌, ℕ, List, Option, Ok, Err}
use Rattle.wire_types.specs.declared.Fault.{Fault}
use Rattle.wire_types.specs.declared.Fault.TheVariants.{Memory, Read}
use Rattle.wire_pattern.specs.Pattern.{Pattern}
use Rattle.wire_pattern_script.specs.Reads.{ReadsPattern}
use Rattle.wire_command.specs.Read.{WereComing}

-- what was to come reads as the pattern
pub record ReadAsPattern (coming : Option (List ℕ)) (p : Pattern) : Type 0 where
  pub bytes : List ℕ
  pub came : WereComing coming bytes
  pub reads : ReadsPattern bytes (Ok p)

-- the first fault of what was to come
pub record RefusesPattern (coming : Option (List ℕ)) (fault : Fault) : Type 0 where
  pub bytes : List ℕ
  pub came : WereComing coming bytes
  pub reads : ReadsPattern bytes (Err fault)

-- why there is no pattern: memory ran out, a read failed, or the file is refused
abbrev pub HasNoPattern : Option (List ℕ) → Fault → Type 0
HasNoPattern coming fault = (fault ≡ Memory) ⊎ ((fault ≡ Read) ⊎ RefusesPattern coming fault)
