-- What a file reads as, by what its two passes give.
use Rattle.std.proofs.Common.{◌≡◌, ◌≤◌, ◌⊎◌, inl, inr, sym, refl, ℕ, List, length, Result, Ok, Err, IfOk, IfErr}
use Rattle.wire_types.specs.declared.Fault.{Fault}
use Rattle.wire_types.specs.declared.Fault.TheVariants.{Memory}
use Rattle.wire_lines.specs.Text.{lines_of}
use Rattle.wire_scripts.specs.Scripts.{Scripts}
use Rattle.wire_reader.specs.Limits.{file_bytes}
use Rattle.wire_reader.specs.Statements.{statements}
use Rattle.wire_reader.specs.FirstPass.{Declared, FirstPass}
use Rattle.wire_reader.specs.Reads.{Reads, second_pass}
use Rattle.wire_reader.specs.Located.{AreCallLines, lines_in}
use Rattle.wire_reader.specs.declared.limits.Size.{Size}

module _ (size : Size) (bytes : List ℕ) (short : length bytes ≤ file_bytes size) where
  -- a fault of the first pass
  pub first_fault : (e : Fault) → (e ≡ Memory) ⊎ FirstPass size (statements bytes) (length (lines_of bytes)) (Err e) → (e ≡ Memory) ⊎ Reads size bytes (Err e)
  first_fault e (inl memory) = inl memory
  first_fault e (inr first) = inr (inr (short, (Err e, first, refl)))

  module _ (d : Declared) (first : FirstPass size (statements bytes) (length (lines_of bytes)) (Ok d)) where
    -- what the second pass makes of what is declared
    pub scripts_read : {A : Type 0} (f : A → Scripts) (r : Result A Fault) → IfOk r (λ a. second_pass d ≡ Ok (f a)) → IfOk r (λ a. Reads size bytes (Ok (f a)))
    scripts_read f (Ok a) is = inr (short, (Ok d, first, sym is))
    scripts_read f (Err e) is = tt

    pub second_fault : {A : Type 0} (r : Result A Fault) → IfErr r (λ e. (e ≡ Memory) ⊎ (second_pass d ≡ Err e)) → IfErr r (λ e. (e ≡ Memory) ⊎ Reads size bytes (Err e))
    second_fault (Ok a) is = tt
    second_fault (Err e) (inl memory) = inl memory
    second_fault (Err e) (inr is) = inr (inr (short, (Ok d, first, sym is)))

    pub lines_read : {A : Type 0} (f : A → List (List ℕ)) (r : Result A Fault) → IfOk r (λ a. f a ≡ lines_in d) → IfOk r (λ a. AreCallLines size bytes (f a))
    lines_read f (Ok a) is = record { declared = d; reads = first; lines = is }
    lines_read f (Err e) is = tt
