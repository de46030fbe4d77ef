-- Of a small pattern the lines of a process's events, and its processes in blocks.
use Rattle.std.proofs.Common.{◌≡◌, suc, [], ◌∷◌, refl}
use Rattle.wire_runs.proofs.PatternRows.{exchange, four}
use Rattle.wire_pattern_laws.specs.Ordered.{in_blocks}
use Rattle.wire_pattern_laws.specs.Lines.{numbers_from, IsOfLine}

-- three turns of a put, a commit, both halves of a fence, three turns of a get
numbers_of_one : numbers_from four 1 0 0 (exchange.script 0) ≡ 0 ∷ (0 ∷ (0 ∷ (1 ∷ (2 ∷ (2 ∷ (3 ∷ (3 ∷ (3 ∷ []))))))))
numbers_of_one = refl

pub second_get : IsOfLine exchange four (record { proc = 1; at = 7 }) 0 3
second_get = record { its_role = refl; its_line = refl }

two_and_three : in_blocks (λ role. suc (suc role)) 2 ≡ 0 ∷ (0 ∷ (1 ∷ (1 ∷ (1 ∷ []))))
two_and_three = refl
