-- Of each call of an instance the call line of its script that it comes from.
use Rattle.std.specs.Prelude.{◌≡◌, ℕ, suc, ◌+◌, ◌-◌, List, [], ◌∷◌, ◌++◌, map, flat_map, length, slice_index_or}
use Rattle.std.specs.List.{range_with_len}
use Rattle.wire_runs.specs.Patterns.{turns}
use Rattle.wire_pattern.specs.Pattern.{Step, Once, Loop}
use Rattle.wire_pattern.specs.Instances.{Cast, cast_of, steps_lines}
use Rattle.wire_pattern_waits.specs.Lines.{lines_in}

-- how many call lines a step has
abbrev pub line_count : Step → ℕ
line_count (Once line) = 1
line_count (Loop number role mode lines) = length lines

-- for each call of step i of the caller v the number of its line, where the first line of the step has the number n
abbrev pub step_places : Cast → ℕ → ℕ → ℕ → Step → List ℕ
step_places cast v i n (Once line) = n ∷ []
step_places cast v i n (Loop number role mode lines) =
    flat_map (λ (e : ℕ). range_with_len n (length lines)) (turns (cast_of cast) v i role mode)

-- those of the calls of v, from step number i on
abbrev pub steps_places : Cast → ℕ → ℕ → ℕ → List Step → List ℕ
steps_places cast v i n [] = []
steps_places cast v i n (step ∷ steps) = step_places cast v i n step ++ steps_places cast v (suc i) (n + line_count step) steps

-- the number in the file of the call line n of a script, counted from 1
abbrev pub file_number : List Step → ℕ → ℕ
file_number steps n = slice_index_or (map (λ l. l.number) (flat_map lines_in steps)) (n - 1) 0

-- these are the lines that the calls of the caller v come from
abbrev pub PlacesLead : Type 0
PlacesLead = (cast : Cast) (v : ℕ) (steps : List Step) → map (file_number steps) (steps_places cast v 0 1 steps) ≡ steps_lines cast v 0 steps
