-- An event of an instance has its line where loops that only read take more turns. (The lemmas of `FindsInFuller` of
-- `wire_pattern_laws`, of any event.)
use Rattle.std.proofs.Common.{◌≡◌, ℕ, zero, suc, ◌+◌, List, [], ◌∷◌, ◌++◌, map, true, ◌==◌, Some, refl, sym, ap, ◌∙◌, subst, eq-eqb}
use Rattle.std.specs.Prelude.{slice_get, filter}
use Rattle.std.proofs.lemmas.Bool.{cond-true, cond-false, or_left, or_right}
use Rattle.std.proofs.lemmas.List.{map-append}
use Rattle.wire_runs.specs.Plan.{Event, Call, kinds_of}
use Rattle.wire_runs.specs.Fences.{is_member}
use Rattle.wire_runs.specs.Embeddings.{image}
use Rattle.wire_runs.specs.Parts.{Piece, Kept, Left, place_in, in_place}
use Rattle.wire_runs.specs.Patterns.{Line, InOrder, Round, Chosen, Step, Once, Loop, Pattern, Coding, Cast, group, call_in, loop_calls, turns}
use Rattle.wire_runs.specs.Restrictions.{keep_calls, leave_calls, script_in}
use Rattle.wire_runs.proofs.RestrictedCalls.{kinds_append}
use Rattle.wire_runs.proofs.SameRoles.{in_order_same, round_same}
use Rattle.wire_pattern_laws.specs.Fuller.{IsFuller}
use Rattle.wire_pattern_laws.specs.Lines.{numbers, turn_numbers, step_numbers, step_lines, numbers_from, IsOfLine}
use Rattle.wire_pattern_laws.proofs.SameCalls.{AskedHere, AskedFrom}
use Rattle.wire_pattern_laws.proofs.MoreTurns.{some_pieces, step_pieces, pieces_from, FullerTurn, takes, takes_more, Standing, neither, both, taken, standing, pieces, asked}
use Rattle.wire_pattern_laws.proofs.KeptLines.{Along, along_both, kept_lines, left_lines}

-- the numbers of lines along the pieces
module _ (coding : Coding) (cast fuller : Cast) (v i n : ℕ) (lines : List Line) where
  along_some : (xs : List ℕ) → ((x : ℕ) → is_member xs x ≡ true → (x ≡ v → ⊥) → FullerTurn cast fuller v i x lines) →
      Along (turn_numbers n lines (filter (takes_more coding cast fuller v i lines) xs)) (turn_numbers n lines (filter (takes coding cast fuller v i lines) xs))
      (some_pieces coding cast v i lines (filter (takes_more coding cast fuller v i lines) xs))
  unfolding some_pieces
  along_some [] ask = tt
  along_some (x ∷ xs) ask =
      go (standing coding cast fuller v i lines x (ask x (or_left (x == x) (is_member xs x) (eq-eqb x x refl)))) (along_some xs (λ y m. ask y (or_right (x == y) (is_member xs y) m)))
    where
      more : List ℕ
      more = filter (takes_more coding cast fuller v i lines) xs

      less : List ℕ
      less = filter (takes coding cast fuller v i lines) xs

      both_lists : (ys zs : List ℕ) → filter (takes_more coding cast fuller v i lines) (x ∷ xs) ≡ ys → filter (takes coding cast fuller v i lines) (x ∷ xs) ≡ zs →
          Along (turn_numbers n lines ys) (turn_numbers n lines zs) (some_pieces coding cast v i lines ys) →
          Along (turn_numbers n lines (filter (takes_more coding cast fuller v i lines) (x ∷ xs))) (turn_numbers n lines (filter (takes coding cast fuller v i lines) (x ∷ xs)))
          (some_pieces coding cast v i lines (filter (takes_more coding cast fuller v i lines) (x ∷ xs)))
      both_lists ys zs a b h =
          subst (λ us. Along (turn_numbers n lines us) (turn_numbers n lines (filter (takes coding cast fuller v i lines) (x ∷ xs))) (some_pieces coding cast v i lines us)) (sym a)
          (subst (λ us. Along (turn_numbers n lines ys) (turn_numbers n lines us) (some_pieces coding cast v i lines ys)) (sym b) h)

      go : Standing coding cast fuller v i lines x → Along (turn_numbers n lines more) (turn_numbers n lines less) (some_pieces coding cast v i lines more) →
          Along (turn_numbers n lines (filter (takes_more coding cast fuller v i lines) (x ∷ xs))) (turn_numbers n lines (filter (takes coding cast fuller v i lines) (x ∷ xs)))
          (some_pieces coding cast v i lines (filter (takes_more coding cast fuller v i lines) (x ∷ xs)))
      go (neither f c) rest = both_lists more less (cond-false _ _ _ f) (cond-false _ _ _ c) rest
      go (both f c t) rest = both_lists (x ∷ more) (x ∷ less) (cond-true _ _ _ f) (cond-true _ _ _ c)
          (subst (λ ps. Along (turn_numbers n lines (x ∷ more)) (turn_numbers n lines (x ∷ less)) (ps ++ some_pieces coding cast v i lines more)) (sym (cond-true _ _ _ t))
          (along_both (numbers n lines) (numbers n lines) (keep_calls (map (call_in coding cast v x) lines)) (turn_numbers n lines more) (turn_numbers n lines less) (some_pieces coding cast v i lines more)
          (kept_lines coding cast v x n lines) rest))
      go (taken f c t r) rest = both_lists (x ∷ more) less (cond-true _ _ _ f) (cond-false _ _ _ c)
          (subst (λ ps. Along (turn_numbers n lines (x ∷ more)) (turn_numbers n lines less) (ps ++ some_pieces coding cast v i lines more)) (sym (cond-false _ _ _ t))
          (along_both (numbers n lines) [] (leave_calls (map (call_in coding cast v x) lines)) (turn_numbers n lines more) (turn_numbers n lines less) (some_pieces coding cast v i lines more)
          (left_lines coding cast v x n lines) rest))

module _ (coding : Coding) (cast fuller : Cast) (same : fuller.roles ≡ cast.roles) (v : ℕ) where
  along_loop : (n : ℕ) (lines : List Line) (es : List ℕ) → Along (turn_numbers n lines es) (turn_numbers n lines es) (keep_calls (loop_calls coding cast v lines es))
  along_loop n lines [] = tt
  along_loop n lines (x ∷ es) =
      subst (λ ps. Along (turn_numbers n lines (x ∷ es)) (turn_numbers n lines (x ∷ es)) ps) (sym (kept_joined (map (call_in coding cast v x) lines) (loop_calls coding cast v lines es)))
      (along_both (numbers n lines) (numbers n lines) (keep_calls (map (call_in coding cast v x) lines)) (turn_numbers n lines es) (turn_numbers n lines es) (keep_calls (loop_calls coding cast v lines es))
      (kept_lines coding cast v x n lines) (along_loop n lines es))
    where
      kept_joined : (xs ys : List Call) → keep_calls (xs ++ ys) ≡ keep_calls xs ++ keep_calls ys
      kept_joined xs ys = ap (map Kept) (kinds_append xs ys) ∙ map-append Kept (kinds_of xs) (kinds_of ys)

  along_step : (i n : ℕ) (step : Step) → AskedHere cast v (FullerTurn cast fuller v) i step → Along (step_numbers fuller v i n step) (step_numbers cast v i n step) (step_pieces coding cast fuller v i step)
  unfolding step_pieces
  along_step i n (Once line) ask = kept_lines coding cast v v n (line ∷ [])
  along_step i n (Loop role InOrder lines) ask =
      subst (λ es. Along (turn_numbers n lines es) (turn_numbers n lines (turns cast v i role InOrder)) (keep_calls (loop_calls coding cast v lines (turns cast v i role InOrder)))) (sym (in_order_same coding cast fuller same v i role))
      (along_loop n lines (turns cast v i role InOrder))
  along_step i n (Loop role Round lines) ask =
      subst (λ es. Along (turn_numbers n lines es) (turn_numbers n lines (turns cast v i role Round)) (keep_calls (loop_calls coding cast v lines (turns cast v i role Round)))) (sym (round_same coding cast fuller same v i role))
      (along_loop n lines (turns cast v i role Round))
  along_step i n (Loop role Chosen lines) ask =
      subst (λ roles. Along (turn_numbers n lines (filter (takes_more coding cast fuller v i lines) (group role roles))) (turn_numbers n lines (turns cast v i role Chosen))
      (some_pieces coding cast v i lines (filter (takes_more coding cast fuller v i lines) (group role roles)))) (sym same)
      (along_some coding cast fuller v i n lines (group role cast.roles) ask)

  along_steps : (i n : ℕ) (steps : List Step) → AskedFrom cast v (FullerTurn cast fuller v) i steps → Along (numbers_from fuller v i n steps) (numbers_from cast v i n steps) (pieces_from coding cast fuller v i steps)
  unfolding pieces_from
  along_steps i n [] ask = tt
  along_steps i n (step ∷ steps) ask =
      along_both (step_numbers fuller v i n step) (step_numbers cast v i n step) (step_pieces coding cast fuller v i step)
      (numbers_from fuller v (suc i) (n + step_lines step) steps) (numbers_from cast v (suc i) (n + step_lines step) steps) (pieces_from coding cast fuller v (suc i) steps)
      (along_step i n step ask.0) (along_steps (suc i) (n + step_lines step) steps ask.1)

-- of a kept event the number is that of its image
along_back : (ms ns : List ℕ) (xs : List Piece) → Along ms ns xs → (i v : ℕ) → slice_get ns i ≡ Some v → slice_get ms (place_in xs i) ≡ Some v
along_back [] [] [] a i v is = is
along_back [] (n ∷ ns) [] a i v is = absurd a
along_back (m ∷ ms) ns [] a i v is = absurd a
along_back [] ns (x ∷ xs) a i v is = absurd a
along_back (m ∷ ms) [] (Kept k ∷ xs) a i v is = absurd a
along_back (m ∷ ms) (n ∷ ns) (Kept k ∷ xs) a zero v is = ap Some a.0 ∙ is
along_back (m ∷ ms) (n ∷ ns) (Kept k ∷ xs) a (suc i) v is = along_back ms ns xs a.1 i v is
along_back (m ∷ ms) [] (Left k ∷ xs) a i v is = along_back ms [] xs a i v is
along_back (m ∷ ms) (n ∷ ns) (Left k ∷ xs) a i v is = along_back ms (n ∷ ns) xs a i v is

pub line_there : (pattern : Pattern) (coding : Coding) (cast fuller : Cast) → (more : IsFuller pattern cast fuller) → (get : Event) (role n : ℕ) → IsOfLine pattern cast get role n
    → IsOfLine pattern fuller (image (in_place (pieces pattern coding cast fuller more)) get) role n
unfolding pieces
line_there pattern coding cast fuller more get role n of = record {
  its_role = ap (λ roles. slice_get roles get.proc) more.roles ∙ of.its_role;
  its_line = along_back (numbers_from fuller get.proc 0 0 (pattern.script role)) (numbers_from cast get.proc 0 0 (pattern.script role))
      (pieces_from coding cast fuller get.proc 0 (script_in pattern (slice_get cast.roles get.proc)))
      (subst (λ o. Along (numbers_from fuller get.proc 0 0 (script_in pattern o)) (numbers_from cast get.proc 0 0 (script_in pattern o)) (pieces_from coding cast fuller get.proc 0 (script_in pattern (slice_get cast.roles get.proc))))
      of.its_role
      (along_steps coding cast fuller more.roles get.proc 0 0 (script_in pattern (slice_get cast.roles get.proc)) (asked pattern coding cast fuller more get.proc)))
      get.at n of.its_line;
}
