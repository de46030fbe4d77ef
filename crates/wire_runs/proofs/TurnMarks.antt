-- Which turn an event belongs to: taking away another process than the caller and the one of that turn keeps the event.
use Rattle.std.proofs.Common.{◌≡◌, ℕ, zero, suc, List, [], ◌∷◌, ◌++◌, map, length, Bool, false, ◌==◌, Some, inl, inr, refl, sym, ap, ◌∙◌, subst, arith, eq-eqb, ne_eqb}
use Rattle.std.specs.Prelude.{slice_get}
use Rattle.std.proofs.lemmas.Bool.{cond-true, cond-false, cases_eq}
use Rattle.std.proofs.lemmas.Option.{none-some, same_Some}
use Rattle.wire_runs.specs.Plan.{Event, Kind, kinds_of}
use Rattle.wire_runs.specs.Embeddings.{Renaming, image, image_kind}
use Rattle.wire_runs.specs.Parts.{Piece, Kept, Left, place_in}
use Rattle.wire_runs.specs.Patterns.{Line, Turns, Step, Once, Loop, Pattern, Coding, Cast, call_in, turns, AreLoopLines, waits_step, AreSteps}
use Rattle.wire_runs.specs.Restrictions.{skip, back, restricted, leave_calls, loop_pieces, step_pieces, pieces_from, script_in, pieces_of, removal, CanGo}
use Rattle.wire_runs.proofs.Due.{place_path}
use Rattle.wire_runs.proofs.Skip.{skip_back}
use Rattle.wire_runs.proofs.RestrictedEach.{line_same, lines_same, script_known}

-- of each event the process whose turn it is, the caller itself outside loops
abbrev pub marked : ℕ → List Kind → List ℕ
marked e ks = map (λ k. e) ks

abbrev pub loop_marks : Coding → Cast → ℕ → List Line → List ℕ → List ℕ
loop_marks coding cast v lines [] = []
loop_marks coding cast v lines (e ∷ es) = marked e (kinds_of (map (call_in coding cast v e) lines)) ++ loop_marks coding cast v lines es

abbrev pub step_marks : Coding → Cast → ℕ → ℕ → Step → List ℕ
step_marks coding cast v i (Once line) = marked v (kinds_of (call_in coding cast v v line ∷ []))
step_marks coding cast v i (Loop role mode lines) = loop_marks coding cast v lines (turns cast v i role mode)

abbrev pub marks_from : Coding → Cast → ℕ → ℕ → List Step → List ℕ
marks_from coding cast v i [] = []
marks_from coding cast v i (step ∷ steps) = step_marks coding cast v i step ++ marks_from coding cast v (suc i) steps

-- the marks of the events of p
abbrev pub marks_of : Pattern → Coding → Cast → ℕ → List ℕ
marks_of pattern coding cast p = marks_from coding cast p 0 (script_in pattern (slice_get cast.roles p))

-- what is left out is marked r
abbrev LeavesMarked : ℕ → List ℕ → List Piece → Type 0
LeavesMarked r [] [] = Unit {0}
LeavesMarked r [] (piece ∷ pieces) = ⊥
LeavesMarked r (m ∷ ms) [] = ⊥
LeavesMarked r (m ∷ ms) (Kept k ∷ pieces) = LeavesMarked r ms pieces
LeavesMarked r (m ∷ ms) (Left k ∷ pieces) = (m ≡ r) × LeavesMarked r ms pieces

marked_both : (r : ℕ) (ms ns : List ℕ) (xs ys : List Piece) → LeavesMarked r ms xs → LeavesMarked r ns ys → LeavesMarked r (ms ++ ns) (xs ++ ys)
marked_both r [] ns [] ys a b = b
marked_both r [] ns (x ∷ xs) ys a b = absurd a
marked_both r (m ∷ ms) ns [] ys a b = absurd a
marked_both r (m ∷ ms) ns (Kept k ∷ xs) ys a b = marked_both r ms ns xs ys a b
marked_both r (m ∷ ms) ns (Left k ∷ xs) ys a b = (a.0, marked_both r ms ns xs ys a.1 b)

kept_marked : (r e : ℕ) (f : Kind → Kind) (ks ls : List Kind) → map f ks ≡ ls → LeavesMarked r (marked e ls) (map Kept ks)
kept_marked r e f [] [] s = tt
kept_marked r e f [] (l ∷ ls) s = absurd (let n = ap length s in omega (arith, n))
kept_marked r e f (k ∷ ks) [] s = absurd (let n = ap length s in omega (arith, n))
kept_marked r e f (k ∷ ks) (l ∷ ls) s = kept_marked r e f ks ls (ap rest s)
  where
    rest : List Kind → List Kind
    rest [] = []
    rest (x ∷ xs) = xs

left_marked : (r : ℕ) (ks : List Kind) → LeavesMarked r (marked r ks) (map Left ks)
left_marked r [] = tt
left_marked r (k ∷ ks) = (refl, left_marked r ks)

-- a piece that is kept stands at a place
stands : (pieces : List Piece) (i : ℕ) (k : Kind) → slice_get pieces i ≡ Some (Kept k) → (n : ℕ) × (place_in pieces n ≡ i)
stands [] i k is = absurd (none-some _ is)
stands (Kept l ∷ pieces) zero k is = (0, refl)
stands (Kept l ∷ pieces) (suc i) k is = let w = stands pieces i k is in (suc w.0, ap suc w.1)
stands (Left l ∷ pieces) zero k is = let s = same_Some _ _ is in cc
stands (Left l ∷ pieces) (suc i) k is = let w = stands pieces i k is in (w.0, ap suc w.1)

-- an event with another mark is kept
kept_or_r : (to : Renaming) (r : ℕ) (ms : List ℕ) (pieces : List Piece) → LeavesMarked r ms pieces → (i e : ℕ) → slice_get ms i ≡ Some e → (e ≡ r → ⊥) → (n : ℕ) × (place_in pieces n ≡ i)
kept_or_r to r [] [] a i e is ne = absurd (none-some e is)
kept_or_r to r [] (x ∷ xs) a i e is ne = absurd a
kept_or_r to r (m ∷ ms) [] a i e is ne = absurd a
kept_or_r to r (m ∷ ms) (Kept k ∷ xs) a zero e is ne = (0, refl)
kept_or_r to r (m ∷ ms) (Kept k ∷ xs) a (suc i) e is ne = let w = kept_or_r to r ms xs a i e is ne in (suc w.0, ap suc w.1)
kept_or_r to r (m ∷ ms) (Left k ∷ xs) a zero e is ne = absurd (ne (sym (same_Some _ _ is) ∙ a.0))
kept_or_r to r (m ∷ ms) (Left k ∷ xs) a (suc i) e is ne = let w = kept_or_r to r ms xs a.1 i e is ne in (w.0, ap suc w.1)

module _ (pattern : Pattern) (coding : Coding) (cast : Cast) (r role : ℕ) (can : CanGo pattern cast r role) where
  loop_marked : (p other : ℕ) (mode : Turns) (lines : List Line) → AreLoopLines pattern.single other mode lines → (es : List ℕ) →
      LeavesMarked r (loop_marks coding cast (skip r p) lines es) (loop_pieces coding cast r p lines es)
  loop_marked p other mode lines known [] = tt
  loop_marked p other mode lines known (e ∷ es) =
      marked_both r (marked e (kinds_of (map (call_in coding cast (skip r p) e) lines))) (loop_marks coding cast (skip r p) lines es) _ (loop_pieces coding cast r p lines es)
      (elim (cases_eq e r) [
        | inl s ↦ subst (LeavesMarked r (marked e (kinds_of (map (call_in coding cast (skip r p) e) lines)))) (sym (cond-true (e == r) _ _ (eq-eqb e r s)))
            (subst (λ v. LeavesMarked r (marked v (kinds_of (map (call_in coding cast (skip r p) e) lines))) (leave_calls (map (call_in coding cast (skip r p) e) lines))) (sym s)
            (left_marked r (kinds_of (map (call_in coding cast (skip r p) e) lines))))
        | inr ne ↦ subst (LeavesMarked r (marked e (kinds_of (map (call_in coding cast (skip r p) e) lines)))) (sym (cond-false (e == r) _ _ (ne_eqb e r ne)))
            (kept_marked r e (image_kind (removal pattern coding cast r role)) (kinds_of (map (call_in coding (restricted r cast) p (back r e)) lines)) (kinds_of (map (call_in coding cast (skip r p) e) lines))
            (lines_same pattern coding cast r role can p (back r e) other mode lines known ∙ ap (λ v. kinds_of (map (call_in coding cast (skip r p) v) lines)) (skip_back r e ne)))
      ])
      (loop_marked p other mode lines known es)

  steps_marked : (p i : ℕ) (waits : Bool) (steps : List Step) → AreSteps pattern.single waits steps → LeavesMarked r (marks_from coding cast (skip r p) i steps) (pieces_from coding cast r p i steps)
  steps_marked p i waits [] known = tt
  steps_marked p i waits (Once line ∷ steps) known =
      marked_both r (step_marks coding cast (skip r p) i (Once line)) (marks_from coding cast (skip r p) (suc i) steps) (step_pieces coding cast r p i (Once line)) (pieces_from coding cast r p (suc i) steps)
      (kept_marked r (skip r p) (image_kind (removal pattern coding cast r role)) (kinds_of (call_in coding (restricted r cast) p p line ∷ [])) (kinds_of (call_in coding cast (skip r p) (skip r p) line ∷ []))
      (line_same pattern coding cast r role can p p line known.0))
      (steps_marked p (suc i) (waits_step waits (Once line)) steps known.1)
  steps_marked p i waits (Loop other mode lines ∷ steps) known =
      marked_both r (step_marks coding cast (skip r p) i (Loop other mode lines)) (marks_from coding cast (skip r p) (suc i) steps) (step_pieces coding cast r p i (Loop other mode lines))
      (pieces_from coding cast r p (suc i) steps)
      (loop_marked p other mode lines known.0.0 (turns cast (skip r p) i other mode))
      (steps_marked p (suc i) (waits_step waits (Loop other mode lines)) steps known.1)

  -- an event of another process, in another turn than r's, is an image
  pub is_image : (x : Event) (e : ℕ) → slice_get (marks_of pattern coding cast x.proc) x.at ≡ Some e → (x.proc ≡ r → ⊥) → (e ≡ r → ⊥) → (y : Event) × (image (removal pattern coding cast r role) y ≡ x)
  is_image x e is ne other =
      let there = skip_back r x.proc ne in
      let w = kept_or_r (removal pattern coding cast r role) r (marks_of pattern coding cast (skip r (back r x.proc))) (pieces_of pattern coding cast r (back r x.proc))
      (steps_marked (back r x.proc) 0 false (script_in pattern (slice_get cast.roles (skip r (back r x.proc)))) (script_known pattern coding cast r role can (slice_get cast.roles (skip r (back r x.proc)))))
      x.at e (ap (λ v. slice_get (marks_of pattern coding cast v) x.at) there ∙ is) other in
      (record { proc = back r x.proc; at = w.0 }, sym (place_path x (skip r (back r x.proc)) (place_in (pieces_of pattern coding cast r (back r x.proc)) w.0) (sym there) (sym w.1)))
