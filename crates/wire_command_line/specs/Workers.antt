-- The number that a word of digits says.
use Rattle.std.specs.Prelude.{ℕ, ◌+◌, ◌*◌, ◌-◌, ◌&&◌, ◌==◌, Bool, not, nat_le, List, length, fold, min, Option, Some}
use Rattle.std.specs.Prelude.{None, if◌then◌else◌, option_and_then}
use Rattle.std.specs.List.{list_all}

-- the byte is one of `0` to `9`
abbrev pub is_digit : ℕ → Bool
is_digit byte = nat_le 48 byte && nat_le byte 57

-- the word is one or more digits
abbrev pub is_number : List ℕ → Bool
is_number word = not (length word == 0) && list_all is_digit word

-- the number that digits say, the lowest last
abbrev pub number_said : List ℕ → ℕ
number_said = fold (λ n digit. n * 10 + (digit - 48)) 0

-- how many races are tried: all past 1,000,000,000 are one
abbrev pub most_said : List ℕ → Option ℕ
most_said word = if is_number word then Some (min (number_said word) 1000000000) else None

-- a number that isn't 0, of ranks or of nodes: all past 1,000,000,000 are one
abbrev pub if_nonzero : ℕ → Option ℕ
if_nonzero n = if n == 0 then None else Some n

abbrev pub nonzero_said : List ℕ → Option ℕ
nonzero_said word = option_and_then if_nonzero (most_said word)

-- how many workers a word says: all past 64 are one
abbrev pub workers_said : List ℕ → Option ℕ
workers_said word = if is_number word then Some (min (number_said word) 65) else None
