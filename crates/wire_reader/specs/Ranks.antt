-- The ranks that a word lists, with commas between them.
use Rattle.std.specs.Prelude.{ℕ, ◌+◌, ◌==◌, List, [], ◌∷◌, Result}
use Rattle.std.specs.List.{slice_split}
use Rattle.wire_types.specs.declared.Fault.{Fault}
use Rattle.wire_scripts.specs.Scripts.{Scripts}
use Rattle.wire_reader.specs.Statements.{Statement}
use Rattle.wire_reader.specs.Order.{order_of}

-- the parts of a list as steps of an order, each with its number, where the first of them has the number n
abbrev pub parts_from : ℕ → List (List ℕ) → List Statement
parts_from n [] = []
parts_from n (part ∷ parts) = (n, part ∷ []) ∷ parts_from (n + 1) parts

-- the processes that the parts of a word name, or that the first part that names none is wrong
abbrev pub ranks_read : Scripts → List ℕ → Result (List ℕ) Fault
ranks_read s word = order_of s (parts_from 1 (slice_split (λ b. b == 44) word))
