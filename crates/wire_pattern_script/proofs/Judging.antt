-- From one line to all.
use Rattle.std.proofs.Common.{◌≡◌, refl, ℕ, List, ◌∷◌, Result, Err, ◌⊎◌, inl, inr}
use Rattle.wire_types.specs.declared.Fault.{Fault}
use Rattle.wire_types.specs.declared.Fault.TheVariants.{Memory}
use Rattle.wire_reader.specs.Statements.{Statement}
use Rattle.wire_pattern_script.specs.FirstPass.{Declared, Judges, JudgesAll}

-- a line that is refused ends all
pub refused : (start d : Declared) (header last : ℕ) (line : Statement) (lines now all : List Statement) (f : Fault) → now ≡ line ∷ lines
    → ((r : Result Declared Fault) → JudgesAll d last now r → JudgesAll start header all r)
    → (f ≡ Memory) ⊎ Judges d line (Err f) → (f ≡ Memory) ⊎ JudgesAll start header all (Err f)
refused start d header last line lines now all f is so_far (inl m) = inl m
refused start d header last line lines now all f is so_far (inr j) = inr (so_far (Err f) (rw is (Err f, j, refl)))
