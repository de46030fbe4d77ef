-- The order of steps that a text says: on each line the process that takes the next step.
use Rattle.std.specs.Prelude.{ℕ, ◌+◌, ◌==◌, nat_lt, List, [], ◌∷◌, length, take, count_by, position, Option, Some, None}
use Rattle.std.specs.Prelude.{Result, Ok, Err, if◌then◌else◌}
use Rattle.std.specs.Str.{bytes_eq}
use Rattle.wire_types.specs.declared.Fault.{Fault}
use Rattle.wire_types.specs.declared.Fault.TheVariants.{BadOrder}
use Rattle.wire_scripts.specs.Scripts.{Scripts}
use Rattle.wire_scripts.specs.Canonical.{process_text}
use Rattle.wire_reader.specs.declared.limits.Size.{Size}
use Rattle.wire_reader.specs.Limits.{order_bytes}
use Rattle.wire_reader.specs.Statements.{Statement, statements}

-- the number of the first process whose text is the word
abbrev pub proc_named : Scripts → List ℕ → Option ℕ
proc_named s word = position (λ q. bytes_eq word (process_text s q)) s.processes

-- the process that the words of a line name: they are one word, and that is the text of a process
abbrev pub step_of : Scripts → List (List ℕ) → Option ℕ
step_of s (word ∷ []) = proc_named s word
step_of s words = None

-- the step of a line before the steps of the later lines; the fault of a line comes before theirs
abbrev pub with_step : ℕ → Option ℕ → Result (List ℕ) Fault → Result (List ℕ) Fault
with_step line None later = Err (BadOrder line)
with_step line (Some step) (Ok steps) = Ok (step ∷ steps)
with_step line (Some step) (Err fault) = Err fault

-- the steps of these lines, one for each, or the first line that names no process
abbrev pub order_of : Scripts → List Statement → Result (List ℕ) Fault
order_of s [] = Ok []
order_of s (statement ∷ later) = with_step statement.0 (step_of s statement.1) (order_of s later)

-- the order that a text reads as, with this many bytes at most, or its fault
abbrev pub order_within : ℕ → Scripts → List ℕ → Result (List ℕ) Fault
order_within limit s bytes =
    if nat_lt limit (length bytes) then Err (BadOrder (count_by (λ b. b == 10) (take limit bytes) + 1))
    else order_of s (statements bytes)

-- the order that a text reads as within the limit of this size, or its fault
abbrev pub order_read : Size → Scripts → List ℕ → Result (List ℕ) Fault
order_read size s bytes = order_within (order_bytes size) s bytes
