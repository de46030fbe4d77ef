-- The first words of a table, as the definition has them.
use Rattle.std.proofs.Common.{◌≡◌, ◌∙◌, ap, refl, ℕ, List, [], ◌∷◌, map}
use Rattle.std.specs.Borrow.{Bor}

abbrev pub Row : Type 0
Row = Bor (List ℕ) × Bor (List ℕ)

abbrev Text : Type 0
Text = List ℕ × List ℕ

firsts : (t : List Row) → map (λ (u : Row). u.0.now) t ≡ map (λ (p : Text). p.0) (map (λ (u : Row). (u.0.now, u.1.now)) t)
firsts [] = refl
firsts (u ∷ us) = ap (λ r. u.0.now ∷ r) (firsts us)

pub firsts_of : (t : List Row) (us : List Text) → map (λ (u : Row). (u.0.now, u.1.now)) t ≡ us → map (λ (u : Row). u.0.now) t ≡ map (λ (p : Text). p.0) us
firsts_of t us is = firsts t ∙ ap (map (λ (p : Text). p.0)) is
