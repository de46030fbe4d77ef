-- What a writer has after a fault.
use Rattle.std.specs.Prelude.{◌≡◌, ℕ, ◌<◌, List, Option, take, length}
use Rattle.std.specs.Io.KnownBytes.{Appends}
use Rattle.wire_types.specs.declared.fault.Fault.{Fault}
use Rattle.wire_types.specs.declared.fault.Fault.TheVariants.{Write}

-- of the text exactly the first n bytes went out, which aren't all of it
abbrev pub BreaksAfter : Option (List ℕ) → Option (List ℕ) → List ℕ → ℕ → Type 0
BreaksAfter old new text n = (n < length text) × Appends old new (take n text)

-- the fault says how many bytes of the text went out
abbrev pub WritesFront : Option (List ℕ) → Option (List ℕ) → List ℕ → Fault → Type 0
WritesFront old new text e = (n : ℕ) × (e ≡ Write n) × BreaksAfter old new text n
