-- What lists of borrowed texts and lists of vectors hold, as lists of lists.
use Rattle.std.specs.Prelude.{ℕ, List, Vec, map}
use Rattle.std.specs.Borrow.{Bor}
use Rattle.std.specs.declared.alloc.Global.{Global}

-- the texts that are borrowed
abbrev pub texts_of : List (Bor (List ℕ)) → List (List ℕ)
texts_of words = map (λ w. w.now) words

-- the lists that stand in vectors
abbrev pub lists_of : {A : Type 0} → List (Vec A Global) → List (List A)
lists_of rows = map (λ row. row.items) rows
