-- From one line to all.
use Rattle.std.proofs.Common.{◌≡◌, refl, ℕ, List, ◌∷◌, Result, Err, ◌⊎◌, inl, inr}
use Rattle.wire_types.specs.declared.Fault.{Fault}
use Rattle.wire_types.specs.declared.Fault.TheVariants.{Memory, BadHeader}
use Rattle.wire_types.specs.declared.Version.{Version}
use Rattle.wire_lines.specs.Said.{Says, Header}
use Rattle.wire_reader.specs.Statements.{Statement}
use Rattle.wire_reader.specs.FirstPass.{Declared, Judges, JudgesAll, FirstPass}
use Rattle.wire_reader.specs.declared.limits.Size.{Size}

-- a line that is refused ends all
pub refused : (start d : Declared) (line : Statement) (lines now all : List Statement) (f : Fault) → now ≡ line ∷ lines
    → ((r : Result Declared Fault) → JudgesAll d now r → JudgesAll start all r)
    → (f ≡ Memory) ⊎ Judges d line (Err f) → (f ≡ Memory) ⊎ JudgesAll start all (Err f)
refused start d line lines now all f is so_far (inl m) = inl m
refused start d line lines now all f is so_far (inr j) = inr (so_far (Err f) (rw is (Err f, j, refl)))

-- a file whose first line is no header
pub no_header : (size : Size) (all lines : List Statement) (line : Statement) (n : ℕ) → all ≡ line ∷ lines → ((version : Version) → Says line.1 (Header version) → ⊥)
    → FirstPass size all n (Err (BadHeader line.0))
no_header size all lines line n is none = rw is (inr (none, refl))
