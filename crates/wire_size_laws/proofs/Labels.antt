-- With one rank fewer each event comes from the same line and turn, and keys keep their order.
use Rattle.std.proofs.Common.{◌≡◌, ℕ, zero, suc, ◌<◌, List, [], ◌∷◌, ◌++◌, map, length, Bool, true, false, not, ◌==◌, Option, Some, None, inl, inr, refl, sym, ap, ◌∙◌, subst, arith, eq-eqb, ne_eqb, nat_lt}
use Rattle.std.specs.Prelude.{slice_get, filter, cond, option_map}
use Rattle.std.proofs.lemmas.Bool.{cond-true, cond-false, cases_eq}
use Rattle.wire_runs.specs.Plan.{Plan, Event, Kind, Leave, kind, event_count}
use Rattle.wire_runs.specs.Embeddings.{Renaming, image, image_kind}
use Rattle.wire_runs.specs.Parts.{Piece, Kept, Left, kept_kinds, place_in}
use Rattle.wire_runs.specs.Patterns.{Line, LinePut, LineCommit, LineFence, LineGet, LineGetNow, LinePublish, LineLookup, LineLookupWait, LineUnpublish, LineUnpublishAll, LineFixed}
use Rattle.wire_runs.specs.Patterns.{Turns, Step, Once, Loop, Pattern, Coding, Cast, call_in, turns, instance_of}
use Rattle.wire_runs.specs.Restrictions.{skip, back, restricted, keep_calls, leave_calls, loop_pieces, step_pieces, pieces_from, pieces_of, script_in, removal, CanGo}
use Rattle.wire_runs.proofs.Basics.{event_within}
use Rattle.wire_runs.proofs.Skip.{skip_back, back_skip, skip_lt, skip_up, without_get}
use Rattle.wire_runs.proofs.RestrictedEach.{turns_skip, kept_is}
use Rattle.wire_runs.proofs.RestrictedWhole.{restrictions_embed}
use Rattle.wire_size_laws.specs.Stages.{Label, turn_labels, loop_labels, step_labels, labels_from, labels_of, By, ByNone, ByCaller, ByOther, ByLower, ByHigher, counted, Stages, StageKey, is_leave, key_in, key_of, IsLess}

-- a label with r's gap
abbrev pub label_up : ℕ → Label → Label
label_up r l = record { step = l.step; line = l.line; each = skip r l.each }

-- of the labels of all pieces those of the kept ones
abbrev AreKept : ℕ → List Label → List Piece → List Label → Type 0
AreKept r [] [] [] = Unit {0}
AreKept r [] [] (n ∷ ns) = ⊥
AreKept r [] (piece ∷ pieces) ns = ⊥
AreKept r (m ∷ ms) [] ns = ⊥
AreKept r (m ∷ ms) (Left k ∷ pieces) ns = AreKept r ms pieces ns
AreKept r (m ∷ ms) (Kept k ∷ pieces) [] = ⊥
AreKept r (m ∷ ms) (Kept k ∷ pieces) (n ∷ ns) = (m ≡ label_up r n) × AreKept r ms pieces ns

kept_both : (r : ℕ) (ms ns ms' ns' : List Label) (xs ys : List Piece) → AreKept r ms xs ns → AreKept r ms' ys ns' → AreKept r (ms ++ ms') (xs ++ ys) (ns ++ ns')
kept_both r [] [] ms' ns' [] ys a b = b
kept_both r [] (n ∷ ns) ms' ns' [] ys a b = absurd a
kept_both r [] ns ms' ns' (x ∷ xs) ys a b = absurd a
kept_both r (m ∷ ms) ns ms' ns' [] ys a b = absurd a
kept_both r (m ∷ ms) ns ms' ns' (Left k ∷ xs) ys a b = kept_both r ms ns ms' ns' xs ys a b
kept_both r (m ∷ ms) [] ms' ns' (Kept k ∷ xs) ys a b = absurd a
kept_both r (m ∷ ms) (n ∷ ns) ms' ns' (Kept k ∷ xs) ys a b = (a.0, kept_both r ms ns ms' ns' xs ys a.1 b)

kept_length : (r : ℕ) (ms ns : List Label) (pieces : List Piece) → AreKept r ms pieces ns → length ns ≡ length (kept_kinds pieces)
kept_length r [] [] [] a = refl
kept_length r [] (n ∷ ns) [] a = absurd a
kept_length r [] ns (x ∷ pieces) a = absurd a
kept_length r (m ∷ ms) ns [] a = absurd a
kept_length r (m ∷ ms) ns (Left k ∷ pieces) a = kept_length r ms ns pieces a
kept_length r (m ∷ ms) [] (Kept k ∷ pieces) a = absurd a
kept_length r (m ∷ ms) (n ∷ ns) (Kept k ∷ pieces) a = ap suc (kept_length r ms ns pieces a.1)

kept_place : (r : ℕ) (ms ns : List Label) (pieces : List Piece) → AreKept r ms pieces ns → (i : ℕ) → i < length ns → slice_get ms (place_in pieces i) ≡ option_map (label_up r) (slice_get ns i)
kept_place r [] [] [] a i lt = absurd (omega (arith, lt))
kept_place r [] (n ∷ ns) [] a i lt = absurd a
kept_place r [] ns (x ∷ pieces) a i lt = absurd a
kept_place r (m ∷ ms) ns [] a i lt = absurd a
kept_place r (m ∷ ms) ns (Left k ∷ pieces) a i lt = kept_place r ms ns pieces a i lt
kept_place r (m ∷ ms) [] (Kept k ∷ pieces) a i lt = absurd a
kept_place r (m ∷ ms) (n ∷ ns) (Kept k ∷ pieces) a zero lt = ap Some a.0
kept_place r (m ∷ ms) (n ∷ ns) (Kept k ∷ pieces) a (suc i) lt = kept_place r ms ns pieces a.1 i (omega (arith, lt))

-- a turn that is kept, and one that is left out
turn_kept : (coding : Coding) (fewer : Cast) (r v i l e : ℕ) (lines : List Line) → AreKept r (turn_labels i l (skip r e) lines) (keep_calls (map (call_in coding fewer v e) lines)) (turn_labels i l e lines)
turn_kept coding fewer r v i l e [] = tt
turn_kept coding fewer r v i l e (LineFence items collect ∷ lines) = (refl, (refl, turn_kept coding fewer r v i (suc l) e lines))
turn_kept coding fewer r v i l e (LinePut key scope ∷ lines) = (refl, turn_kept coding fewer r v i (suc l) e lines)
turn_kept coding fewer r v i l e (LineCommit ∷ lines) = (refl, turn_kept coding fewer r v i (suc l) e lines)
turn_kept coding fewer r v i l e (LineGet owner key ∷ lines) = (refl, turn_kept coding fewer r v i (suc l) e lines)
turn_kept coding fewer r v i l e (LineGetNow owner key ∷ lines) = (refl, turn_kept coding fewer r v i (suc l) e lines)
turn_kept coding fewer r v i l e (LinePublish name ∷ lines) = (refl, turn_kept coding fewer r v i (suc l) e lines)
turn_kept coding fewer r v i l e (LineLookup name ∷ lines) = (refl, turn_kept coding fewer r v i (suc l) e lines)
turn_kept coding fewer r v i l e (LineLookupWait name ∷ lines) = (refl, turn_kept coding fewer r v i (suc l) e lines)
turn_kept coding fewer r v i l e (LineUnpublish name ∷ lines) = (refl, turn_kept coding fewer r v i (suc l) e lines)
turn_kept coding fewer r v i l e (LineUnpublishAll ∷ lines) = (refl, turn_kept coding fewer r v i (suc l) e lines)
turn_kept coding fewer r v i l e (LineFixed reply ∷ lines) = (refl, turn_kept coding fewer r v i (suc l) e lines)

turn_left : (coding : Coding) (cast : Cast) (r v i l e : ℕ) (lines : List Line) → AreKept r (turn_labels i l e lines) (leave_calls (map (call_in coding cast v e) lines)) []
turn_left coding cast r v i l e [] = tt
turn_left coding cast r v i l e (LineFence items collect ∷ lines) = turn_left coding cast r v i (suc l) e lines
turn_left coding cast r v i l e (LinePut key scope ∷ lines) = turn_left coding cast r v i (suc l) e lines
turn_left coding cast r v i l e (LineCommit ∷ lines) = turn_left coding cast r v i (suc l) e lines
turn_left coding cast r v i l e (LineGet owner key ∷ lines) = turn_left coding cast r v i (suc l) e lines
turn_left coding cast r v i l e (LineGetNow owner key ∷ lines) = turn_left coding cast r v i (suc l) e lines
turn_left coding cast r v i l e (LinePublish name ∷ lines) = turn_left coding cast r v i (suc l) e lines
turn_left coding cast r v i l e (LineLookup name ∷ lines) = turn_left coding cast r v i (suc l) e lines
turn_left coding cast r v i l e (LineLookupWait name ∷ lines) = turn_left coding cast r v i (suc l) e lines
turn_left coding cast r v i l e (LineUnpublish name ∷ lines) = turn_left coding cast r v i (suc l) e lines
turn_left coding cast r v i l e (LineUnpublishAll ∷ lines) = turn_left coding cast r v i (suc l) e lines
turn_left coding cast r v i l e (LineFixed reply ∷ lines) = turn_left coding cast r v i (suc l) e lines

-- keys with r's gap
abbrev number_up : ℕ → ℕ → ℕ
number_up r zero = zero
number_up r (suc p) = suc (skip r p)

abbrev pub key_up : ℕ → StageKey → StageKey
key_up r k = record { one = k.one; two = number_up r k.two; three = number_up r k.three; four = k.four }

number_rises : (r a b : ℕ) → a < b → number_up r a < number_up r b
number_rises r a zero lt = absurd (omega (arith, lt))
number_rises r zero (suc b) lt = omega arith
number_rises r (suc a) (suc b) lt = let up = skip_up r a b (omega (arith, lt)) in omega (arith, up)

pub less_up : (r : ℕ) (k l : StageKey) → IsLess k l → IsLess (key_up r k) (key_up r l)
less_up r k l (inl lt) = inl lt
less_up r k l (inr (same, inl lt)) = inr (same, inl (number_rises r k.two l.two lt))
less_up r k l (inr (same, inr (two, inl lt))) = inr (same, inr (ap (number_up r) two, inl (number_rises r k.three l.three lt)))
less_up r k l (inr (same, inr (two, inr (three, lt)))) = inr (same, inr (ap (number_up r) two, inr (ap (number_up r) three, lt)))

counted_up : (r : ℕ) (by_ : By) (v e : ℕ) → counted by_ (skip r v) (skip r e) ≡ number_up r (counted by_ v e)
counted_up r ByNone v e = refl
counted_up r ByCaller v e = refl
counted_up r ByOther v e = refl
counted_up r ByLower v e = ap suc (ap (λ b. cond b (skip r v) (skip r e)) (skip_lt r v e) ∙ chosen (nat_lt v e))
  where
    chosen : (b : Bool) → cond b (skip r v) (skip r e) ≡ skip r (cond b v e)
    chosen true = refl
    chosen false = refl
counted_up r ByHigher v e = ap suc (ap (λ b. cond b (skip r e) (skip r v)) (skip_lt r v e) ∙ chosen (nat_lt v e))
  where
    chosen : (b : Bool) → cond b (skip r e) (skip r v) ≡ skip r (cond b e v)
    chosen true = refl
    chosen false = refl

key_in_up : (r : ℕ) (stages : Stages) (role : Option ℕ) (l : Option Label) (leave : Bool) (v : ℕ) → key_in stages role (option_map (label_up r) l) leave (skip r v) ≡ key_up r (key_in stages role l leave v)
key_in_up r stages None l leave v = none l
  where
    none : (l : Option Label) → key_in stages None (option_map (label_up r) l) leave (skip r v) ≡ key_up r (key_in stages None l leave v)
    none None = refl
    none (Some l) = refl
key_in_up r stages (Some role) None leave v = refl
key_in_up r stages (Some role) (Some l) leave v =
    let s = stages role l.step l.line leave in
    let a = counted_up r s.first v l.each in
    let b = counted_up r s.second v l.each in
    λ t. record { one = s.stage; two = a t; three = b t; four = s.position }

module _ (pattern : Pattern) (coding : Coding) (cast : Cast) (r role : ℕ) (can : CanGo pattern cast r role) where
  abbrev to : Renaming
  to = removal pattern coding cast r role

  abbrev fewer : Cast
  fewer = restricted r cast

  abbrev small : Plan
  small = instance_of pattern coding fewer

  abbrev large : Plan
  large = instance_of pattern coding cast

  abbrev others : List ℕ → List ℕ
  others es = filter (λ e. not (e == r)) es

  map_back : (xs : List ℕ) → map (back r) (map (skip r) xs) ≡ xs
  map_back [] = refl
  map_back (x ∷ xs) = ap (λ v. v ∷ map (back r) (map (skip r) xs)) (back_skip r x) ∙ ap (λ vs. x ∷ vs) (map_back xs)

  turns_back : (p i group_role : ℕ) (mode : Turns) → map (back r) (others (turns cast (skip r p) i group_role mode)) ≡ turns fewer p i group_role mode
  turns_back p i group_role mode = ap (map (back r)) (sym (turns_skip pattern coding cast r role can p i group_role mode)) ∙ map_back (turns fewer p i group_role mode)

  loop_kept : (p i : ℕ) (lines : List Line) (es : List ℕ) → AreKept r (loop_labels i lines es) (loop_pieces coding cast r p lines es) (loop_labels i lines (map (back r) (others es)))
  loop_kept p i lines [] = tt
  loop_kept p i lines (e ∷ es) = elim (cases_eq e r) [
    | inl s ↦ subst (λ (vs : List ℕ). AreKept r (turn_labels i 0 e lines ++ loop_labels i lines es) (loop_pieces coding cast r p lines (e ∷ es)) (loop_labels i lines (map (back r) vs)))
        (sym (cond-false _ (e ∷ others es) (others es) (ap not (eq-eqb e r s))))
        (subst (λ (ps : List Piece). AreKept r (turn_labels i 0 e lines ++ loop_labels i lines es) (ps ++ loop_pieces coding cast r p lines es) (loop_labels i lines (map (back r) (others es))))
        (sym (cond-true (e == r) (leave_calls (map (call_in coding cast (skip r p) e) lines)) (keep_calls (map (call_in coding fewer p (back r e)) lines)) (eq-eqb e r s)))
        (kept_both r (turn_labels i 0 e lines) [] (loop_labels i lines es) (loop_labels i lines (map (back r) (others es))) (leave_calls (map (call_in coding cast (skip r p) e) lines)) (loop_pieces coding cast r p lines es)
        (turn_left coding cast r (skip r p) i 0 e lines) (loop_kept p i lines es)))
    | inr ne ↦ subst (λ (vs : List ℕ). AreKept r (turn_labels i 0 e lines ++ loop_labels i lines es) (loop_pieces coding cast r p lines (e ∷ es)) (loop_labels i lines (map (back r) vs)))
        (sym (cond-true _ (e ∷ others es) (others es) (ap not (ne_eqb e r ne))))
        (subst (λ (ps : List Piece). AreKept r (turn_labels i 0 e lines ++ loop_labels i lines es) (ps ++ loop_pieces coding cast r p lines es) (turn_labels i 0 (back r e) lines ++ loop_labels i lines (map (back r) (others es))))
        (sym (cond-false (e == r) (leave_calls (map (call_in coding cast (skip r p) e) lines)) (keep_calls (map (call_in coding fewer p (back r e)) lines)) (ne_eqb e r ne)))
        (kept_both r (turn_labels i 0 e lines) (turn_labels i 0 (back r e) lines) (loop_labels i lines es) (loop_labels i lines (map (back r) (others es)))
        (keep_calls (map (call_in coding fewer p (back r e)) lines)) (loop_pieces coding cast r p lines es)
        (subst (λ v. AreKept r (turn_labels i 0 v lines) (keep_calls (map (call_in coding fewer p (back r e)) lines)) (turn_labels i 0 (back r e) lines)) (skip_back r e ne)
        (turn_kept coding fewer r p i 0 (back r e) lines))
        (loop_kept p i lines es)))
  ]

  step_kept : (p i : ℕ) (step : Step) → AreKept r (step_labels cast (skip r p) i step) (step_pieces coding cast r p i step) (step_labels fewer p i step)
  step_kept p i (Once line) = turn_kept coding fewer r p i 0 p (line ∷ [])
  step_kept p i (Loop other mode lines) =
      subst (λ (es : List ℕ). AreKept r (loop_labels i lines (turns cast (skip r p) i other mode)) (loop_pieces coding cast r p lines (turns cast (skip r p) i other mode)) (loop_labels i lines es))
      (turns_back p i other mode) (loop_kept p i lines (turns cast (skip r p) i other mode))

  steps_kept : (p i : ℕ) (steps : List Step) → AreKept r (labels_from cast (skip r p) i steps) (pieces_from coding cast r p i steps) (labels_from fewer p i steps)
  steps_kept p i [] = tt
  steps_kept p i (step ∷ steps) =
      kept_both r (step_labels cast (skip r p) i step) (step_labels fewer p i step) (labels_from cast (skip r p) (suc i) steps) (labels_from fewer p (suc i) steps)
      (step_pieces coding cast r p i step) (pieces_from coding cast r p (suc i) steps) (step_kept p i step) (steps_kept p (suc i) steps)

  labelled : (p : ℕ) → AreKept r (labels_of pattern cast (skip r p)) (pieces_of pattern coding cast r p) (labels_of pattern fewer p)
  labelled p =
      subst (λ o. AreKept r (labels_of pattern cast (skip r p)) (pieces_of pattern coding cast r p) (labels_from fewer p 0 (script_in pattern o))) (sym (without_get r cast.roles p))
      (steps_kept p 0 (script_in pattern (slice_get cast.roles (skip r p))))

  same_label : (p n : ℕ) → n < event_count small p → slice_get (labels_of pattern cast (skip r p)) (to.place p n) ≡ option_map (label_up r) (slice_get (labels_of pattern fewer p) n)
  unfolding event_count
  same_label p n lt =
      let a = labelled p in
      let count = kept_length r (labels_of pattern cast (skip r p)) (labels_of pattern fewer p) (pieces_of pattern coding cast r p) a in
      let all = ap length (kept_is pattern coding cast r role can p) in
      kept_place r (labels_of pattern cast (skip r p)) (labels_of pattern fewer p) (pieces_of pattern coding cast r p) a n (omega (arith, lt, count, all))

  leaves_same : (k : Kind) → is_leave (Some (image_kind to k)) ≡ is_leave (Some k)
  leaves_same (Leave members) = refl
  leaves_same _ = refl

  -- an event and its image have one key, but for r's gap
  pub key_same : (stages : Stages) (x : Event) (k : Kind) → kind small x ≡ Some k → key_of stages pattern coding cast (image to x) ≡ key_up r (key_of stages pattern coding fewer x)
  key_same stages x k is =
      ap (λ o. key_in stages o (slice_get (labels_of pattern cast (skip r x.proc)) (to.place x.proc x.at)) (is_leave (kind large (image to x))) (skip r x.proc)) (sym (without_get r cast.roles x.proc))
      ∙ ap (λ o. key_in stages (slice_get fewer.roles x.proc) o (is_leave (kind large (image to x))) (skip r x.proc)) (same_label x.proc x.at (event_within small x.proc x.at k is))
      ∙ ap (λ b. key_in stages (slice_get fewer.roles x.proc) (option_map (label_up r) (slice_get (labels_of pattern fewer x.proc) x.at)) b (skip r x.proc))
      (ap is_leave ((restrictions_embed pattern coding cast r role can).kinds_agree x k is) ∙ leaves_same k ∙ sym (ap is_leave is))
      ∙ key_in_up r stages (slice_get fewer.roles x.proc) (slice_get (labels_of pattern fewer x.proc) x.at) (is_leave (kind small x)) x.proc
