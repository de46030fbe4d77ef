-- What became of every call, as lists.
use Rattle.std.specs.Prelude.{ℕ, List, map}
use Rattle.wire_types.specs.declared.reply.CallEnd.{CallEnd}
use Rattle.wire_types.specs.declared.reply.Outcome.{Outcome}

-- a row for each process, with what became of its calls, and how many processes wait
pub record Ends : Type 0 where
  pub rows : List (List CallEnd)
  pub waiting : ℕ

-- what an outcome of the code says
abbrev pub ends_of : Outcome → Ends
ends_of o = record { rows = map (λ row. row.items) o.rows.items; waiting = o.waiting }
