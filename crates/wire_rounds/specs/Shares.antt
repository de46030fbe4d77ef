-- The pieces of a round, and those that are dealt to one worker.
use Rattle.std.specs.Prelude.{ℕ, zero, suc, ◌%◌, ◌==◌, List, [], ◌∷◌, ◌++◌, if◌then◌else◌}
use Rattle.wire_rounds.specs.declared.rule.Piece.{Piece}
use Rattle.wire_rounds.specs.Views.{IsRising}

-- the piece of a process, by its number
abbrev pub piece : ℕ → ℕ → Piece
piece number round = record { rank = record { number = number }; round = round }

-- one piece for each process below number n, in process order
abbrev pub deal_of : ℕ → ℕ → List Piece
deal_of round zero = []
deal_of round (suc n) = deal_of round n ++ piece n round ∷ []

-- in every deal the pieces rise, so they all differ
abbrev pub DealRises : Type 0
DealRises = (round n : ℕ) → IsRising (deal_of round n)

-- those of them whose process has the worker's number modulo the number of workers
abbrev pub share_of : ℕ → ℕ → ℕ → ℕ → List Piece
share_of worker workers round zero = []
share_of worker workers round (suc n) = share_of worker workers round n ++ (if (n % workers) == worker then piece n round ∷ [] else [])
