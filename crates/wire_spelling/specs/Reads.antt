-- What is read of a text so far: for the contracts of private functions.
use Rattle.std.specs.Prelude.{◌≡◌, ℕ, List, [], ◌∷◌, ◌++◌, Option, map}
use Rattle.wire_lines.specs.Text.{lines_of, words_of}
use Rattle.wire_spelling.specs.Spelling.{SaidOfCalls, Nothing, Rank, Job, Call, calls_in, calls_of_text, of_job}
use Rattle.wire_spelling.specs.Spelled.{Progress, all_rows, joined}
use Rattle.wire_spelling.specs.Numbering.{AreRowsTold, IsRowTold}
use Rattle.wire_spelling.specs.Known.{AreKnown}
use Rattle.wire_spelling.specs.declared.reading.Reading.{Reading}

-- the row has ended, or it has one more call
abbrev pub row_ended : Progress → Progress
row_ended p = record { job = p.job; done = p.done ++ p.row ∷ []; row = [] }

abbrev pub call_added : Progress → Option (List ℕ) → Progress
call_added p set = record { job = p.job; done = p.done; row = p.row ++ of_job p.job set ∷ [] }

-- one more line is read
abbrev pub taken : Progress → SaidOfCalls → Progress
taken p Nothing = p
taken p Rank = row_ended p
taken p (Job name) = record { job = name; done = p.done; row = p.row }
taken p (Call set) = call_added p set

-- it is told how the calls that are read so far spell their sets
pub record IsReadTo (reading : Reading) (p : Progress) : Type 0 where
  pub job : reading.job.now ≡ p.job
  pub done : AreRowsTold reading.numbers p.done (map (λ row. row.items) reading.done.items)
  pub row : IsRowTold reading.numbers p.row reading.row.items
  pub known : AreKnown reading.numbers reading.known

-- a text is read up to this rest of it
pub record IsReadUpTo (reading : Reading) (rest text : List ℕ) : Type 0 where
  pub so_far : Progress
  pub read : IsReadTo reading so_far
  pub whole : joined so_far (calls_in so_far.job (map words_of (lines_of rest))) ≡ all_rows (calls_of_text text)
