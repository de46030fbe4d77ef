-- The pattern that a text reads as, or its fault.
use Rattle.std.specs.Prelude.{◌≡◌, ℕ, ◌+◌, ◌<◌, ◌≤◌, ◌⊎◌, ◌==◌, List, length, take, count_by}
use Rattle.std.specs.Prelude.{Option, Some, None, Result, Ok, Err, MatchResult}
use Rattle.wire_types.specs.declared.Fault.{Fault}
use Rattle.wire_types.specs.declared.Fault.TheVariants.{TooLong}
use Rattle.wire_lines.specs.Text.{lines_of}
use Rattle.wire_reader.specs.Statements.{statements}
use Rattle.wire_reader.specs.Limits.{file_bytes}
use Rattle.wire_reader.specs.declared.limits.Size.TheVariants.{OfVersion}
use Rattle.wire_pattern.specs.Pattern.{Pattern}
use Rattle.wire_pattern_script.specs.FirstPass.{Declared, FirstPass}
use Rattle.wire_pattern_script.specs.Numbers.{pattern_of}
use Rattle.wire_pattern_script.specs.Faults.{pattern_fault}

-- how many bytes a file may have
abbrev pub most_bytes : ℕ
most_bytes = file_bytes OfVersion

-- the pattern, unless it has a fault
abbrev pub unless_fault : Pattern → Option Fault → Result Pattern Fault
unless_fault p None = Ok p
unless_fault p (Some f) = Err f

abbrev pub judged_pattern : Pattern → Result Pattern Fault
judged_pattern p = unless_fault p (pattern_fault p)

-- a text within the limit
abbrev pub ReadsShort : List ℕ → Result Pattern Fault → Type 0
ReadsShort bytes r = (q : Result Declared Fault) × FirstPass (statements bytes) (length (lines_of bytes)) q
    × MatchResult q (λ d. r ≡ judged_pattern (pattern_of d)) (λ f. r ≡ Err f)

-- the text reads as this pattern, or its first fault is this one
abbrev pub ReadsPattern : List ℕ → Result Pattern Fault → Type 0
ReadsPattern bytes r =
    ((most_bytes < length bytes) × (r ≡ Err (TooLong (count_by (λ b. b == 10) (take most_bytes bytes) + 1))))
    ⊎ ((length bytes ≤ most_bytes) × ReadsShort bytes r)

-- a text reads as one value
abbrev pub PatternReadsOnce : Type 0
PatternReadsOnce = (bytes : List ℕ) (r s : Result Pattern Fault) → ReadsPattern bytes r → ReadsPattern bytes s → r ≡ s
