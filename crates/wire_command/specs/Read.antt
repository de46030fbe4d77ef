-- What was to come from a reader, read as the scripts of a plan.
use Rattle.std.specs.Prelude.{◌≡◌, ℕ, List, Option, Ok, Err, IfSome}
use Rattle.wire_types.specs.declared.Fault.{Fault}
use Rattle.wire_scripts.specs.Scripts.{Scripts}
use Rattle.wire_reader.specs.declared.Size.{Size}
use Rattle.wire_reader.specs.Reads.{Reads}

-- the bytes that were to come from a reader, where that is known
abbrev pub WereComing : Option (List ℕ) → List ℕ → Type 0
WereComing coming bytes = IfSome coming (λ all. all ≡ bytes)

-- what was to come read as scripts
pub record ReadAs (size : Size) (coming : Option (List ℕ)) (scripts : Scripts) : Type 0 where
  pub bytes : List ℕ
  pub came : WereComing coming bytes
  pub reads : Reads size bytes (Ok scripts)

-- the first fault of what was to come
pub record Refuses (size : Size) (coming : Option (List ℕ)) (fault : Fault) : Type 0 where
  pub bytes : List ℕ
  pub came : WereComing coming bytes
  pub reads : Reads size bytes (Err fault)
