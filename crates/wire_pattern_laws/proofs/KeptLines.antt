-- Without one rank an event is of the same line.
use Rattle.std.proofs.Common.{◌≡◌, ℕ, zero, suc, ◌+◌, List, [], ◌∷◌, ◌++◌, map, not, ◌==◌, Some, inl, inr, refl, sym, ap, ◌∙◌, subst, eq-eqb, ne_eqb}
use Rattle.std.specs.Prelude.{slice_get, filter}
use Rattle.std.proofs.lemmas.Bool.{cond-true, cond-false, cases_eq}
use Rattle.wire_runs.specs.Plan.{Event}
use Rattle.wire_runs.specs.Embeddings.{image}
use Rattle.wire_runs.specs.Parts.{Piece, Kept, Left, place_in}
use Rattle.wire_runs.specs.Patterns.{Line, LinePut, LineCommit, LineFence, LineGet, LineGetNow, LinePublish, LineLookup, LineLookupWait, LineUnpublish, LineUnpublishAll, LineFixed}
use Rattle.wire_runs.specs.Patterns.{Step, Once, Loop, Pattern, Coding, Cast, call_in, turns}
use Rattle.wire_runs.specs.Restrictions.{skip, back, restricted, keep_calls, leave_calls, loop_pieces, step_pieces, pieces_from, script_in, removal, CanGo}
use Rattle.wire_runs.proofs.Skip.{without_get}
use Rattle.wire_runs.proofs.RestrictedEach.{turns_skip}
use Rattle.wire_pattern_laws.specs.Lines.{numbers, turn_numbers, step_numbers, step_lines, numbers_from, IsOfLine}

-- the numbers of all events, and those of the kept ones, along the pieces
abbrev pub Along : List ℕ → List ℕ → List Piece → Type 0
Along [] [] [] = Unit {0}
Along [] (k ∷ ks) [] = ⊥
Along (m ∷ ms) ks [] = ⊥
Along [] ks (piece ∷ pieces) = ⊥
Along (m ∷ ms) [] (Kept k ∷ pieces) = ⊥
Along (m ∷ ms) (n ∷ ns) (Kept k ∷ pieces) = (m ≡ n) × Along ms ns pieces
Along (m ∷ ms) ns (Left k ∷ pieces) = Along ms ns pieces

pub along_both : (ms ns : List ℕ) (xs : List Piece) (ms' ns' : List ℕ) (ys : List Piece) → Along ms ns xs → Along ms' ns' ys → Along (ms ++ ms') (ns ++ ns') (xs ++ ys)
along_both [] [] [] ms' ns' ys a b = b
along_both [] (n ∷ ns) [] ms' ns' ys a b = absurd a
along_both (m ∷ ms) ns [] ms' ns' ys a b = absurd a
along_both [] ns (x ∷ xs) ms' ns' ys a b = absurd a
along_both (m ∷ ms) [] (Kept k ∷ xs) ms' ns' ys a b = absurd a
along_both (m ∷ ms) (n ∷ ns) (Kept k ∷ xs) ms' ns' ys a b = (a.0, along_both ms ns xs ms' ns' ys a.1 b)
along_both (m ∷ ms) ns (Left k ∷ xs) ms' ns' ys a b = along_left m (ms ++ ms') (ns ++ ns') (xs ++ ys) (along_both ms ns xs ms' ns' ys a b)
  where
    along_left : (m : ℕ) (ms ns : List ℕ) (xs : List Piece) → Along ms ns xs → Along (m ∷ ms) ns (Left k ∷ xs)
    along_left m ms [] xs a = a
    along_left m ms (n ∷ ns) xs a = a

pub along_get : (ms ns : List ℕ) (xs : List Piece) → Along ms ns xs → (i v : ℕ) → slice_get ms (place_in xs i) ≡ Some v → slice_get ns i ≡ Some v
along_get [] [] [] a i v is = is
along_get [] (n ∷ ns) [] a i v is = absurd a
along_get (m ∷ ms) ns [] a i v is = absurd a
along_get [] ns (x ∷ xs) a i v is = absurd a
along_get (m ∷ ms) [] (Kept k ∷ xs) a i v is = absurd a
along_get (m ∷ ms) (n ∷ ns) (Kept k ∷ xs) a zero v is = ap Some (sym a.0) ∙ is
along_get (m ∷ ms) (n ∷ ns) (Kept k ∷ xs) a (suc i) v is = along_get ms ns xs a.1 i v is
along_get (m ∷ ms) [] (Left k ∷ xs) a i v is = along_get ms [] xs a i v is
along_get (m ∷ ms) (n ∷ ns) (Left k ∷ xs) a i v is = along_get ms (n ∷ ns) xs a i v is

-- pieces of lines
pub kept_lines : (coding : Coding) (cast : Cast) (v e n : ℕ) (lines : List Line) → Along (numbers n lines) (numbers n lines) (keep_calls (map (call_in coding cast v e) lines))
kept_lines coding cast v e n [] = tt
kept_lines coding cast v e n (LinePut key scope ∷ lines) = (refl, kept_lines coding cast v e (suc n) lines)
kept_lines coding cast v e n (LineCommit ∷ lines) = (refl, kept_lines coding cast v e (suc n) lines)
kept_lines coding cast v e n (LineFence items collect ∷ lines) = (refl, (refl, kept_lines coding cast v e (suc n) lines))
kept_lines coding cast v e n (LineGet owner key ∷ lines) = (refl, kept_lines coding cast v e (suc n) lines)
kept_lines coding cast v e n (LineGetNow owner key ∷ lines) = (refl, kept_lines coding cast v e (suc n) lines)
kept_lines coding cast v e n (LinePublish name ∷ lines) = (refl, kept_lines coding cast v e (suc n) lines)
kept_lines coding cast v e n (LineLookup name ∷ lines) = (refl, kept_lines coding cast v e (suc n) lines)
kept_lines coding cast v e n (LineLookupWait name ∷ lines) = (refl, kept_lines coding cast v e (suc n) lines)
kept_lines coding cast v e n (LineUnpublish name ∷ lines) = (refl, kept_lines coding cast v e (suc n) lines)
kept_lines coding cast v e n (LineUnpublishAll ∷ lines) = (refl, kept_lines coding cast v e (suc n) lines)
kept_lines coding cast v e n (LineFixed reply ∷ lines) = (refl, kept_lines coding cast v e (suc n) lines)

pub left_lines : (coding : Coding) (cast : Cast) (v e n : ℕ) (lines : List Line) → Along (numbers n lines) [] (leave_calls (map (call_in coding cast v e) lines))
left_lines coding cast v e n [] = tt
left_lines coding cast v e n (LinePut key scope ∷ lines) = left_lines coding cast v e (suc n) lines
left_lines coding cast v e n (LineCommit ∷ lines) = left_lines coding cast v e (suc n) lines
left_lines coding cast v e n (LineFence items collect ∷ lines) = left_lines coding cast v e (suc n) lines
left_lines coding cast v e n (LineGet owner key ∷ lines) = left_lines coding cast v e (suc n) lines
left_lines coding cast v e n (LineGetNow owner key ∷ lines) = left_lines coding cast v e (suc n) lines
left_lines coding cast v e n (LinePublish name ∷ lines) = left_lines coding cast v e (suc n) lines
left_lines coding cast v e n (LineLookup name ∷ lines) = left_lines coding cast v e (suc n) lines
left_lines coding cast v e n (LineLookupWait name ∷ lines) = left_lines coding cast v e (suc n) lines
left_lines coding cast v e n (LineUnpublish name ∷ lines) = left_lines coding cast v e (suc n) lines
left_lines coding cast v e n (LineUnpublishAll ∷ lines) = left_lines coding cast v e (suc n) lines
left_lines coding cast v e n (LineFixed reply ∷ lines) = left_lines coding cast v e (suc n) lines

turns_mapped : (n : ℕ) (lines : List Line) (f : ℕ → ℕ) (es : List ℕ) → turn_numbers n lines (map f es) ≡ turn_numbers n lines es
turns_mapped n lines f [] = refl
turns_mapped n lines f (e ∷ es) = ap (λ ns. numbers n lines ++ ns) (turns_mapped n lines f es)

module _ (pattern : Pattern) (coding : Coding) (cast : Cast) (r role : ℕ) (can : CanGo pattern cast r role) where
  abbrev fewer : Cast
  fewer = restricted r cast

  abbrev others : List ℕ → List ℕ
  others es = filter (λ e. not (e == r)) es

  loop_along : (p n : ℕ) (lines : List Line) (es : List ℕ) → Along (turn_numbers n lines es) (turn_numbers n lines (others es)) (loop_pieces coding cast r p lines es)
  loop_along p n lines [] = tt
  loop_along p n lines (e ∷ es) = elim (cases_eq e r) [
    | inl s ↦ subst (λ vs. Along (turn_numbers n lines (e ∷ es)) (turn_numbers n lines vs) (loop_pieces coding cast r p lines (e ∷ es))) (sym (cond-false _ (e ∷ others es) (others es) (ap not (eq-eqb e r s))))
        (subst (λ ps. Along (turn_numbers n lines (e ∷ es)) (turn_numbers n lines (others es)) (ps ++ loop_pieces coding cast r p lines es)) (sym (cond-true (e == r) _ _ (eq-eqb e r s)))
        (along_both (numbers n lines) [] (leave_calls (map (call_in coding cast (skip r p) e) lines)) (turn_numbers n lines es) (turn_numbers n lines (others es)) (loop_pieces coding cast r p lines es)
        (left_lines coding cast (skip r p) e n lines) (loop_along p n lines es)))
    | inr ne ↦ subst (λ vs. Along (turn_numbers n lines (e ∷ es)) (turn_numbers n lines vs) (loop_pieces coding cast r p lines (e ∷ es))) (sym (cond-true _ (e ∷ others es) (others es) (ap not (ne_eqb e r ne))))
        (subst (λ ps. Along (turn_numbers n lines (e ∷ es)) (turn_numbers n lines (e ∷ others es)) (ps ++ loop_pieces coding cast r p lines es)) (sym (cond-false (e == r) _ _ (ne_eqb e r ne)))
        (along_both (numbers n lines) (numbers n lines) (keep_calls (map (call_in coding fewer p (back r e)) lines)) (turn_numbers n lines es) (turn_numbers n lines (others es)) (loop_pieces coding cast r p lines es)
        (kept_lines coding fewer p (back r e) n lines) (loop_along p n lines es)))
  ]

  step_along : (p i n : ℕ) (step : Step) → Along (step_numbers cast (skip r p) i n step) (step_numbers fewer p i n step) (step_pieces coding cast r p i step)
  step_along p i n (Once line) = kept_lines coding fewer p p n (line ∷ [])
  step_along p i n (Loop other mode lines) =
      subst (λ ns. Along (turn_numbers n lines (turns cast (skip r p) i other mode)) ns (loop_pieces coding cast r p lines (turns cast (skip r p) i other mode)))
      (ap (turn_numbers n lines) (sym (turns_skip pattern coding cast r role can p i other mode)) ∙ turns_mapped n lines (skip r) (turns fewer p i other mode))
      (loop_along p n lines (turns cast (skip r p) i other mode))

  steps_along : (p i n : ℕ) (steps : List Step) → Along (numbers_from cast (skip r p) i n steps) (numbers_from fewer p i n steps) (pieces_from coding cast r p i steps)
  steps_along p i n [] = tt
  steps_along p i n (step ∷ steps) =
      along_both (step_numbers cast (skip r p) i n step) (step_numbers fewer p i n step) (step_pieces coding cast r p i step)
      (numbers_from cast (skip r p) (suc i) (n + step_lines step) steps) (numbers_from fewer p (suc i) (n + step_lines step) steps) (pieces_from coding cast r p (suc i) steps)
      (step_along p i n step) (steps_along p (suc i) (n + step_lines step) steps)

  pub line_left : (y : Event) (its_role n : ℕ) → IsOfLine pattern cast (image (removal pattern coding cast r role) y) its_role n → IsOfLine pattern fewer y its_role n
  line_left y its_role n of = record {
    its_role = without_get r cast.roles y.proc ∙ of.its_role;
    its_line = along_get (numbers_from cast (skip r y.proc) 0 0 (pattern.script its_role)) (numbers_from fewer y.proc 0 0 (pattern.script its_role)) (pieces_from coding cast r y.proc 0 (pattern.script its_role))
        (steps_along y.proc 0 0 (pattern.script its_role)) y.at n
        (ap (λ o. slice_get (numbers_from cast (skip r y.proc) 0 0 (pattern.script its_role)) (place_in (pieces_from coding cast r y.proc 0 (script_in pattern o)) y.at)) (sym of.its_role) ∙ of.its_line);
  }
