-- The numbers of lines of calls, and those of their events.
use Rattle.std.proofs.Common.{◌≡◌, ◌∙◌, ap, sym, refl, ℕ, zero, suc, pred, ◌+◌, ◌<◌, List, [], ◌∷◌, ◌++◌, Bool, true, false, length, map, flat_map, Some, replicate, arith}
use Rattle.std.specs.Prelude.{slice_get}
use Rattle.std.specs.List.{range_with_len}
use Rattle.std.proofs.lemmas.List.{length-map, map-append}
use Rattle.std.proofs.lemmas.List.FromFn.{length-range_with_len}
use Rattle.std.proofs.lemmas.Option.{same_Some}
use Rattle.wire_runs.specs.Plan.{Call}
use Rattle.wire_runs.specs.Patterns as plan
use Rattle.wire_runs.specs.Patterns.{Coding, LinePut, LineCommit, LineFence, LineGet, LineGetNow, LinePublish, LineLookup, LineLookupWait, LineUnpublish, LineUnpublishAll, LineFixed}
use Rattle.wire_runs.specs.Patterns.{Turns, InOrder, Round, Chosen, turns, call_in, loop_calls, step_calls, calls_from}
use Rattle.wire_runs.specs.Restrictions.{on_nodes}
use Rattle.wire_pattern.specs.Pattern.{Step, Once, Loop, Role}
use Rattle.wire_pattern.specs.Planned.{line_of, step_of}
use Rattle.wire_pattern.specs.Instances.{Cast, cast_of}
use Rattle.wire_pattern_laws.specs.Lines.{line_size, numbers, turn_numbers, step_numbers, step_lines, numbers_from}
use Rattle.wire_pattern_waits.specs.Places.{line_count, step_places, steps_places}
use Rattle.wire_pattern_waits.proofs.Answered.{turns_count}
use Rattle.wire_answer_laws.proofs.Fences.{is_fence, leaves_of, place_by}

-- of each event of calls the number of its line from 0, by the numbers from 1 of the lines of the calls
abbrev pub spread : List ℕ → List Bool → List ℕ
spread [] fences = []
spread (line ∷ lines) [] = []
spread (line ∷ lines) (true ∷ fences) = pred line ∷ (pred line ∷ spread lines fences)
spread (line ∷ lines) (false ∷ fences) = pred line ∷ spread lines fences

one_less : (x line : ℕ) → slice_get (x ∷ []) 0 ≡ Some line → pred x ≡ pred line
one_less x line is = ap pred (same_Some x line is)

pub spread_at : (lines : List ℕ) (fences : List Bool) (c line : ℕ) → slice_get lines c ≡ Some line → c < length fences
    → slice_get (spread lines fences) (place_by fences c) ≡ Some (pred line)
spread_at [] fences c line is lt = cc
spread_at (x ∷ lines) [] c line is lt = absurd (omega (arith, lt))
spread_at (x ∷ lines) (true ∷ fences) zero line is lt = ap Some (one_less x line is)
spread_at (x ∷ lines) (false ∷ fences) zero line is lt = ap Some (one_less x line is)
spread_at (x ∷ lines) (true ∷ fences) (suc c) line is lt = spread_at lines fences c line is (omega (arith, lt))
spread_at (x ∷ lines) (false ∷ fences) (suc c) line is lt = spread_at lines fences c line is (omega (arith, lt))

-- the call of an event that leaves no fence
pub record HasCall (lines : List ℕ) (fences : List Bool) (i n : ℕ) : Type 0 where
  pub call : ℕ
  pub line : ℕ
  pub stands : place_by fences call ≡ i
  pub of_line : slice_get lines call ≡ Some line
  pub same : pred line ≡ n
  pub within : call < length fences

pub at_spread : (lines : List ℕ) (fences : List Bool) (i n : ℕ) → slice_get (spread lines fences) i ≡ Some n → slice_get (leaves_of fences) i ≡ Some false
    → HasCall lines fences i n
at_spread [] fences i n is stays = cc
at_spread (x ∷ lines) [] i n is stays = cc
at_spread (x ∷ lines) (true ∷ fences) zero n is stays = record { call = 0; line = x; stands = refl; of_line = refl; same = cc; within = omega arith }
at_spread (x ∷ lines) (false ∷ fences) zero n is stays = record { call = 0; line = x; stands = refl; of_line = refl; same = cc; within = omega arith }
at_spread (x ∷ lines) (true ∷ fences) (suc zero) n is stays = absurd cc
at_spread (x ∷ lines) (true ∷ fences) (suc (suc i)) n is stays =
    let h = at_spread lines fences i n is stays in
    record { call = suc h.call; line = h.line; stands = ap (λ k. suc (suc k)) h.stands; of_line = h.of_line; same = h.same; within = omega (arith, h.within) }
at_spread (x ∷ lines) (false ∷ fences) (suc i) n is stays =
    let h = at_spread lines fences i n is stays in
    record { call = suc h.call; line = h.line; stands = ap suc h.stands; of_line = h.of_line; same = h.same; within = omega (arith, h.within) }

-- two lists, one after the other
spread_append : (xs ys : List ℕ) (fences more : List Bool) → length xs ≡ length fences → spread (xs ++ ys) (fences ++ more) ≡ spread xs fences ++ spread ys more
spread_append [] ys [] more e = refl
spread_append [] ys (b ∷ fences) more e = absurd (omega (arith, e))
spread_append (x ∷ xs) ys [] more e = absurd (omega (arith, e))
spread_append (x ∷ xs) ys (true ∷ fences) more e = ap (λ ns. pred x ∷ (pred x ∷ ns)) (spread_append xs ys fences more (omega (arith, e)))
spread_append (x ∷ xs) ys (false ∷ fences) more e = ap (λ ns. pred x ∷ ns) (spread_append xs ys fences more (omega (arith, e)))

module _ (coding : Coding) (cast : plan.Cast) (v : ℕ) where
  -- one line
  one_line : (e n : ℕ) (line : plan.Line) (rest lines : List ℕ) (fences : List Bool) → rest ≡ spread lines fences
      → replicate (line_size line) n ++ rest ≡ spread (suc n ∷ lines) (is_fence (call_in coding cast v e line) ∷ fences)
  one_line e n (LinePut key scope) rest lines fences same = ap (λ ns. n ∷ ns) same
  one_line e n LineCommit rest lines fences same = ap (λ ns. n ∷ ns) same
  one_line e n (LineFence items collect) rest lines fences same = ap (λ ns. n ∷ (n ∷ ns)) same
  one_line e n (LineGet owner key) rest lines fences same = ap (λ ns. n ∷ ns) same
  one_line e n (LineGetNow owner key) rest lines fences same = ap (λ ns. n ∷ ns) same
  one_line e n (LinePublish name) rest lines fences same = ap (λ ns. n ∷ ns) same
  one_line e n (LineLookup name) rest lines fences same = ap (λ ns. n ∷ ns) same
  one_line e n (LineLookupWait name) rest lines fences same = ap (λ ns. n ∷ ns) same
  one_line e n (LineUnpublish name) rest lines fences same = ap (λ ns. n ∷ ns) same
  one_line e n LineUnpublishAll rest lines fences same = ap (λ ns. n ∷ ns) same
  one_line e n (LineFixed reply) rest lines fences same = ap (λ ns. n ∷ ns) same

  -- the lines of a turn
  some_lines : (e n : ℕ) (lines : List plan.Line) → numbers n lines ≡ spread (range_with_len (suc n) (length lines)) (map is_fence (map (call_in coding cast v e) lines))
  some_lines e n [] = refl
  some_lines e n (line ∷ lines) =
      one_line e n line (numbers (suc n) lines) (range_with_len (suc n + 1) (length lines)) (map is_fence (map (call_in coding cast v e) lines))
      (some_lines e (suc n) lines ∙ ap (λ m. spread (range_with_len m (length lines)) (map is_fence (map (call_in coding cast v e) lines))) next)
    where
      next : suc (suc n) ≡ suc n + 1
      next = omega arith

  some_count : (e n : ℕ) (lines : List plan.Line) → length (range_with_len n (length lines)) ≡ length (map is_fence (map (call_in coding cast v e) lines))
  some_count e n lines =
      length-range_with_len n (length lines) ∙ sym (length-map (map (call_in coding cast v e) lines) is_fence ∙ length-map lines (call_in coding cast v e))

  -- a loop
  all_turns : (n : ℕ) (lines : List plan.Line) (es : List ℕ)
      → turn_numbers n lines es ≡ spread (flat_map (λ (e : ℕ). range_with_len (suc n) (length lines)) es) (map is_fence (loop_calls coding cast v lines es))
  all_turns n lines [] = refl
  all_turns n lines (e ∷ es) =
      ap (λ ns. ns ++ turn_numbers n lines es) (some_lines e n lines)
      ∙ ap (λ ns. spread (range_with_len (suc n) (length lines)) (map is_fence (map (call_in coding cast v e) lines)) ++ ns) (all_turns n lines es)
      ∙ sym (ap (spread (range_with_len (suc n) (length lines) ++ flat_map (λ (e : ℕ). range_with_len (suc n) (length lines)) es))
      (map-append is_fence (map (call_in coding cast v e) lines) (loop_calls coding cast v lines es))
      ∙ spread_append (range_with_len (suc n) (length lines)) (flat_map (λ (e : ℕ). range_with_len (suc n) (length lines)) es)
      (map is_fence (map (call_in coding cast v e) lines)) (map is_fence (loop_calls coding cast v lines es)) (some_count e (suc n) lines))

turns_same : (nodes : ℕ → ℕ) (cast : plan.Cast) (v i role : ℕ) (mode : Turns) → turns (on_nodes nodes cast) v i role mode ≡ turns cast v i role mode
turns_same nodes cast v i role InOrder = refl
turns_same nodes cast v i role Round = refl
turns_same nodes cast v i role Chosen = refl

-- a script of a file, on whatever nodes
module _ (roles : List Role) (coding : Coding) (cast : Cast) (nodes : ℕ → ℕ) (v : ℕ) where
  abbrev on : plan.Cast
  on = on_nodes nodes (cast_of cast)

  of_step : (i n : ℕ) (step : Step) → step_numbers on v i n (step_of roles step) ≡ spread (step_places cast v i (suc n) step) (map is_fence (step_calls coding on v i (step_of roles step)))
  of_step i n (Once line) = one_line coding on v v n (line_of roles line.call) [] [] [] refl
  of_step i n (Loop number role mode lines) =
      all_turns coding on v n (map (λ l. line_of roles l.call) lines) (turns on v i role mode)
      ∙ ap (λ k. spread (flat_map (λ (e : ℕ). range_with_len (suc n) k) (turns on v i role mode)) fences) (length-map lines (λ l. line_of roles l.call))
      ∙ ap (λ es. spread (flat_map (λ (e : ℕ). range_with_len (suc n) (length lines)) es) fences) (turns_same nodes (cast_of cast) v i role mode)
    where
      fences : List Bool
      fences = map is_fence (loop_calls coding on v (map (λ l. line_of roles l.call) lines) (turns on v i role mode))

  step_count : (i n : ℕ) (step : Step) → length (step_places cast v i n step) ≡ length (step_calls coding on v i (step_of roles step))
  step_count i n (Once line) = refl
  step_count i n (Loop number role mode lines) =
      turns_count (λ e. map (call_in coding on v e) planned) (loop_calls coding on v planned) n (length lines) refl (λ e es. refl)
      (λ e. length-map planned (call_in coding on v e) ∙ length-map lines (λ l. line_of roles l.call)) (turns (cast_of cast) v i role mode)
      ∙ ap (λ es. length (loop_calls coding on v planned es)) (sym (turns_same nodes (cast_of cast) v i role mode))
    where
      planned : List plan.Line
      planned = map (λ l. line_of roles l.call) lines

  lines_alike : (step : Step) → step_lines (step_of roles step) ≡ line_count step
  lines_alike (Once line) = refl
  lines_alike (Loop number role mode lines) = length-map lines (λ l. line_of roles l.call)

  pub of_steps : (i n : ℕ) (steps : List Step) → numbers_from on v i n (map (step_of roles) steps)
      ≡ spread (steps_places cast v i (suc n) steps) (map is_fence (calls_from coding on v i (map (step_of roles) steps)))
  of_steps i n [] = refl
  of_steps i n (step ∷ steps) =
      ap (λ ns. ns ++ numbers_from on v (suc i) (n + step_lines (step_of roles step)) (map (step_of roles) steps)) (of_step i n step)
      ∙ ap (λ ns. spread here (map is_fence calls) ++ ns) (of_steps (suc i) (n + step_lines (step_of roles step)) steps
      ∙ ap (λ m. spread (steps_places cast v (suc i) m steps) (map is_fence later)) next)
      ∙ sym (ap (spread (here ++ rest)) (map-append is_fence calls later)
      ∙ spread_append here rest (map is_fence calls) (map is_fence later) (step_count i (suc n) step ∙ sym (length-map calls is_fence)))
    where
      calls : List Call
      calls = step_calls coding on v i (step_of roles step)

      later : List Call
      later = calls_from coding on v (suc i) (map (step_of roles) steps)

      here : List ℕ
      here = step_places cast v i (suc n) step

      rest : List ℕ
      rest = steps_places cast v (suc i) (suc n + line_count step) steps

      next : suc (n + step_lines (step_of roles step)) ≡ suc n + line_count step
      next = let same = lines_alike step in omega (arith, same)
