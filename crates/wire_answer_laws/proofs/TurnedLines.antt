-- Each call of an instance is a line in a turn, and has the number of that line; and calls whose lines have one number
-- are of one line.
use Rattle.std.proofs.Common.{◌≡◌, ◌∙◌, ap, sym, refl, ℕ, suc, ◌+◌, List, [], ◌∷◌, ◌++◌, map, flat_map, length, Some, inl, inr, arith}
use Rattle.std.specs.Prelude.{slice_get}
use Rattle.std.specs.List.{range_with_len}
use Rattle.std.proofs.lemmas.List.{map-append}
use Rattle.std.proofs.lemmas.Option.{same_Some}
use Rattle.wire_runs.specs.Patterns as plan
use Rattle.wire_runs.specs.Patterns.{turns}
use Rattle.wire_runs.proofs.Lists.{slice_get-append_kept, slice_get-append_right}
use Rattle.wire_pattern.specs.Pattern.{Line, Step, Once, Loop}
use Rattle.wire_pattern.specs.Instances.{Cast, cast_of}
use Rattle.wire_instance_laws.proofs.Made.{Turned, in_turn, in_turns, in_step, in_steps}
use Rattle.wire_cutoff.proofs.Members.{In, in_parts, flat_in}
use Rattle.wire_pattern_waits.specs.Places.{line_count, step_places, steps_places}

-- the number of a line, and the line in a turn
abbrev pub NumberedLine : Type 0
NumberedLine = ℕ × Turned

-- these lines in the turn for a process, the first of them with the number n
abbrev turn_lines : ℕ → ℕ → List Line → List NumberedLine
turn_lines n e [] = []
turn_lines n e (line ∷ lines) = (n, in_turn e line) ∷ turn_lines (n + 1) e lines

abbrev step_lines : plan.Cast → ℕ → ℕ → ℕ → Step → List NumberedLine
step_lines cast v i n (Once line) = (n, in_turn v line) ∷ []
step_lines cast v i n (Loop number role mode lines) = flat_map (λ (e : ℕ). turn_lines n e lines) (turns cast v i role mode)

-- those of the calls of v, from step number i on
abbrev pub script_lines : plan.Cast → ℕ → ℕ → ℕ → List Step → List NumberedLine
script_lines cast v i n [] = []
script_lines cast v i n (step ∷ steps) = step_lines cast v i n step ++ script_lines cast v (suc i) (n + line_count step) steps

abbrev pub number_of : NumberedLine → ℕ
number_of x = x.0

abbrev pub turned_of : NumberedLine → Turned
turned_of x = x.1

-- their numbers
turn_numbers : (n e : ℕ) (lines : List Line) → map number_of (turn_lines n e lines) ≡ range_with_len n (length lines)
turn_numbers n e [] = refl
turn_numbers n e (line ∷ lines) = ap (λ ns. n ∷ ns) (turn_numbers (n + 1) e lines)

loop_numbers : (n : ℕ) (lines : List Line) (es : List ℕ)
    → map number_of (flat_map (λ (e : ℕ). turn_lines n e lines) es) ≡ flat_map (λ (e : ℕ). range_with_len n (length lines)) es
loop_numbers n lines [] = refl
loop_numbers n lines (e ∷ es) =
    map-append number_of (turn_lines n e lines) (flat_map (λ (e : ℕ). turn_lines n e lines) es) ∙ (λ j. turn_numbers n e lines j ++ loop_numbers n lines es j)

step_numbers : (cast : Cast) (v i n : ℕ) (step : Step) → map number_of (step_lines (cast_of cast) v i n step) ≡ step_places cast v i n step
step_numbers cast v i n (Once line) = refl
step_numbers cast v i n (Loop number role mode lines) = loop_numbers n lines (turns (cast_of cast) v i role mode)

pub numbers_are : (cast : Cast) (v i n : ℕ) (steps : List Step) → map number_of (script_lines (cast_of cast) v i n steps) ≡ steps_places cast v i n steps
numbers_are cast v i n [] = refl
numbers_are cast v i n (step ∷ steps) =
    map-append number_of (step_lines (cast_of cast) v i n step) (script_lines (cast_of cast) v (suc i) (n + line_count step) steps)
    ∙ (λ j. step_numbers cast v i n step j ++ numbers_are cast v (suc i) (n + line_count step) steps j)

-- the lines
turn_turned : (n e : ℕ) (lines : List Line) → map turned_of (turn_lines n e lines) ≡ map (in_turn e) lines
turn_turned n e [] = refl
turn_turned n e (line ∷ lines) = ap (λ ts. in_turn e line ∷ ts) (turn_turned (n + 1) e lines)

loop_turned : (n : ℕ) (lines : List Line) (es : List ℕ) → map turned_of (flat_map (λ (e : ℕ). turn_lines n e lines) es) ≡ in_turns lines es
loop_turned n lines [] = refl
loop_turned n lines (e ∷ es) =
    map-append turned_of (turn_lines n e lines) (flat_map (λ (e : ℕ). turn_lines n e lines) es) ∙ (λ j. turn_turned n e lines j ++ loop_turned n lines es j)

step_turned : (cast : plan.Cast) (v i n : ℕ) (step : Step) → map turned_of (step_lines cast v i n step) ≡ in_step cast v i step
step_turned cast v i n (Once line) = refl
step_turned cast v i n (Loop number role mode lines) = loop_turned n lines (turns cast v i role mode)

pub turned_are : (cast : plan.Cast) (v i n : ℕ) (steps : List Step) → map turned_of (script_lines cast v i n steps) ≡ in_steps cast v i steps
turned_are cast v i n [] = refl
turned_are cast v i n (step ∷ steps) =
    map-append turned_of (step_lines cast v i n step) (script_lines cast v (suc i) (n + line_count step) steps)
    ∙ (λ j. step_turned cast v i n step j ++ turned_are cast v (suc i) (n + line_count step) steps j)

-- the lines of a script, those in loops too
abbrev lines_in : Step → List Line
lines_in (Once line) = line ∷ []
lines_in (Loop number role mode lines) = lines

abbrev lines_of : List Step → List Line
lines_of [] = []
lines_of (step ∷ steps) = lines_in step ++ lines_of steps

counted : (step : Step) → line_count step ≡ length (lines_in step)
counted (Once line) = refl
counted (Loop number role mode lines) = refl

-- the line with the number n + k is that at place k
record StandsAt (n : ℕ) (lines : List Line) (x : NumberedLine) : Type 0 where
  pub place : ℕ
  pub number : x.0 ≡ n + place
  pub at : slice_get lines place ≡ Some x.1.1

in_turn_at : (n e : ℕ) (lines : List Line) (x : NumberedLine) → In x (turn_lines n e lines) → StandsAt n lines x
in_turn_at n e [] x h = absurd h
in_turn_at n e (line ∷ lines) x (inl is) =
    let first : n ≡ x.0 = ap number_of is in
    record { place = 0; number = omega (arith, first); at = ap (λ (y : NumberedLine). Some y.1.1) is }
in_turn_at n e (line ∷ lines) x (inr h) =
    let k = in_turn_at (n + 1) e lines x h in
    record { place = suc k.place; number = (let next = k.number in omega (arith, next)); at = k.at }

in_step_at : (cast : plan.Cast) (v i n : ℕ) (step : Step) (x : NumberedLine) → In x (step_lines cast v i n step) → StandsAt n (lines_in step) x
in_step_at cast v i n (Once line) x (inl is) =
    let first : n ≡ x.0 = ap number_of is in
    record { place = 0; number = omega (arith, first); at = ap (λ (y : NumberedLine). Some y.1.1) is }
in_step_at cast v i n (Once line) x (inr h) = absurd h
in_step_at cast v i n (Loop number role mode lines) x h =
    let e = flat_in (λ (e : ℕ). turn_lines n e lines) x (turns cast v i role mode) h in in_turn_at n e.0 lines x e.2

in_script_at : (cast : plan.Cast) (v i n : ℕ) (steps : List Step) (x : NumberedLine) → In x (script_lines cast v i n steps) → StandsAt n (lines_of steps) x
in_script_at cast v i n [] x h = absurd h
in_script_at cast v i n (step ∷ steps) x h =
    elim (in_parts x (step_lines cast v i n step) (script_lines cast v (suc i) (n + line_count step) steps) h) [
      | inl here ↦
          let k = in_step_at cast v i n step x here in
          record { place = k.place; number = k.number; at = slice_get-append_kept (lines_in step) (lines_of steps) k.place x.1.1 k.at }
      | inr later ↦
          let k = in_script_at cast v (suc i) (n + line_count step) steps x later in
          let count = counted step in
          let number = k.number in
          record {
            place = length (lines_in step) + k.place;
            number = omega (arith, number, count);
            at = slice_get-append_right (lines_in step) (lines_of steps) k.place ∙ k.at;
          }
    ]

-- calls of any two processes whose lines have one number are of one line
pub one_line : (cast other : plan.Cast) (v w : ℕ) (steps : List Step) (x y : NumberedLine) → In x (script_lines cast v 0 1 steps)
    → In y (script_lines other w 0 1 steps) → x.0 ≡ y.0 → x.1.1 ≡ y.1.1
one_line cast other v w steps x y of_x of_y same =
    let a = in_script_at cast v 0 1 steps x of_x in
    let b = in_script_at other w 0 1 steps y of_y in
    let number_a = a.number in
    let number_b = b.number in
    let place : a.place ≡ b.place = omega (arith, number_a, number_b, same) in
    same_Some x.1.1 y.1.1 (sym a.at ∙ ap (slice_get (lines_of steps)) place ∙ b.at)
