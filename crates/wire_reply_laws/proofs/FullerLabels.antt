-- Where loops of reads take more turns, each event comes from the same line and turn, and has the same key.
use Rattle.std.proofs.Common.{◌≡◌, ℕ, zero, suc, List, [], ◌∷◌, ◌++◌, map, ◌==◌, true, Some, refl, sym, ap, ◌∙◌, subst, eq-eqb}
use Rattle.std.specs.Prelude.{slice_get, filter}
use Rattle.std.proofs.lemmas.Bool.{cond-true, cond-false, or_left, or_right}
use Rattle.std.proofs.lemmas.List.{map-append}
use Rattle.wire_runs.specs.Plan.{Plan, Event, Call, Kind, kinds_of, kind_at, kind}
use Rattle.wire_runs.specs.Fences.{is_member}
use Rattle.wire_runs.specs.Embeddings.{image}
use Rattle.wire_runs.specs.Parts.{Piece, Kept, Left, kept_kinds, place_in, in_place}
use Rattle.wire_runs.specs.Patterns.{Line, LinePut, LineCommit, LineFence, LineGet, LineGetNow, LinePublish, LineLookup, LineLookupWait, LineUnpublish, LineUnpublishAll, LineFixed}
use Rattle.wire_runs.specs.Patterns.{InOrder, Round, Chosen, Step, Once, Loop, Pattern, Coding, Cast, group, call_in, turns, loop_calls, instance_of}
use Rattle.wire_runs.specs.Restrictions.{keep_calls, leave_calls, script_in, on_nodes}
use Rattle.wire_runs.proofs.RestrictedCalls.{kinds_append}
use Rattle.wire_runs.proofs.SameRoles.{in_order_same, round_same}
use Rattle.wire_runs.proofs.MoreReads.{kind_into}
use Rattle.wire_pattern_laws.specs.Fuller.{IsFuller}
use Rattle.wire_pattern_laws.proofs.SameCalls.{AskedHere, AskedFrom}
use Rattle.wire_pattern_laws.proofs.MoreTurns.{some_pieces, step_pieces, pieces_from, FullerTurn, takes, takes_more, Standing, neither, both, taken, standing, pieces, asked, adds}
use Rattle.wire_size_laws.specs.Stages.{Label, turn_labels, loop_labels, step_labels, labels_from, labels_of, Stages, is_leave, key_in, key_of}

-- the labels of all events, and those of the kept ones, along the pieces
abbrev Along : List Label → List Label → List Piece → Type 0
Along [] [] [] = Unit {0}
Along [] (k ∷ ks) [] = ⊥
Along (m ∷ ms) ks [] = ⊥
Along [] ks (piece ∷ pieces) = ⊥
Along (m ∷ ms) [] (Kept k ∷ pieces) = ⊥
Along (m ∷ ms) (n ∷ ns) (Kept k ∷ pieces) = (m ≡ n) × Along ms ns pieces
Along (m ∷ ms) ns (Left k ∷ pieces) = Along ms ns pieces

along_both : (ms ns : List Label) (xs : List Piece) (ms' ns' : List Label) (ys : List Piece) → Along ms ns xs → Along ms' ns' ys → Along (ms ++ ms') (ns ++ ns') (xs ++ ys)
along_both [] [] [] ms' ns' ys a b = b
along_both [] (n ∷ ns) [] ms' ns' ys a b = absurd a
along_both (m ∷ ms) ns [] ms' ns' ys a b = absurd a
along_both [] ns (x ∷ xs) ms' ns' ys a b = absurd a
along_both (m ∷ ms) [] (Kept k ∷ xs) ms' ns' ys a b = absurd a
along_both (m ∷ ms) (n ∷ ns) (Kept k ∷ xs) ms' ns' ys a b = (a.0, along_both ms ns xs ms' ns' ys a.1 b)
along_both (m ∷ ms) ns (Left k ∷ xs) ms' ns' ys a b = along_left m (ms ++ ms') (ns ++ ns') (xs ++ ys) (along_both ms ns xs ms' ns' ys a b)
  where
    along_left : (m : Label) (ms ns : List Label) (xs : List Piece) → Along ms ns xs → Along (m ∷ ms) ns (Left k ∷ xs)
    along_left m ms [] xs a = a
    along_left m ms (n ∷ ns) xs a = a

-- of a kept event the label is that of its image
along_at : (ms ns : List Label) (xs : List Piece) → Along ms ns xs → (i : ℕ) (k : Kind) → slice_get (kept_kinds xs) i ≡ Some k → slice_get ms (place_in xs i) ≡ slice_get ns i
along_at [] [] [] a i k is = refl
along_at [] (n ∷ ns) [] a i k is = absurd a
along_at (m ∷ ms) ns [] a i k is = absurd a
along_at [] ns (x ∷ xs) a i k is = absurd a
along_at (m ∷ ms) [] (Kept l ∷ xs) a i k is = absurd a
along_at (m ∷ ms) (n ∷ ns) (Kept l ∷ xs) a zero k is = ap Some a.0
along_at (m ∷ ms) (n ∷ ns) (Kept l ∷ xs) a (suc i) k is = along_at ms ns xs a.1 i k is
along_at (m ∷ ms) [] (Left l ∷ xs) a i k is = along_at ms [] xs a i k is
along_at (m ∷ ms) (n ∷ ns) (Left l ∷ xs) a i k is = along_at ms (n ∷ ns) xs a i k is

-- a turn that is kept, and one that is left out
kept_turn : (coding : Coding) (cast : Cast) (v i l e : ℕ) (lines : List Line) → Along (turn_labels i l e lines) (turn_labels i l e lines) (keep_calls (map (call_in coding cast v e) lines))
kept_turn coding cast v i l e [] = tt
kept_turn coding cast v i l e (LinePut key scope ∷ lines) = (refl, kept_turn coding cast v i (suc l) e lines)
kept_turn coding cast v i l e (LineCommit ∷ lines) = (refl, kept_turn coding cast v i (suc l) e lines)
kept_turn coding cast v i l e (LineFence items collect ∷ lines) = (refl, (refl, kept_turn coding cast v i (suc l) e lines))
kept_turn coding cast v i l e (LineGet owner key ∷ lines) = (refl, kept_turn coding cast v i (suc l) e lines)
kept_turn coding cast v i l e (LineGetNow owner key ∷ lines) = (refl, kept_turn coding cast v i (suc l) e lines)
kept_turn coding cast v i l e (LinePublish name ∷ lines) = (refl, kept_turn coding cast v i (suc l) e lines)
kept_turn coding cast v i l e (LineLookup name ∷ lines) = (refl, kept_turn coding cast v i (suc l) e lines)
kept_turn coding cast v i l e (LineLookupWait name ∷ lines) = (refl, kept_turn coding cast v i (suc l) e lines)
kept_turn coding cast v i l e (LineUnpublish name ∷ lines) = (refl, kept_turn coding cast v i (suc l) e lines)
kept_turn coding cast v i l e (LineUnpublishAll ∷ lines) = (refl, kept_turn coding cast v i (suc l) e lines)
kept_turn coding cast v i l e (LineFixed reply ∷ lines) = (refl, kept_turn coding cast v i (suc l) e lines)

left_turn : (coding : Coding) (cast : Cast) (v i l e : ℕ) (lines : List Line) → Along (turn_labels i l e lines) [] (leave_calls (map (call_in coding cast v e) lines))
left_turn coding cast v i l e [] = tt
left_turn coding cast v i l e (LinePut key scope ∷ lines) = left_turn coding cast v i (suc l) e lines
left_turn coding cast v i l e (LineCommit ∷ lines) = left_turn coding cast v i (suc l) e lines
left_turn coding cast v i l e (LineFence items collect ∷ lines) = left_turn coding cast v i (suc l) e lines
left_turn coding cast v i l e (LineGet owner key ∷ lines) = left_turn coding cast v i (suc l) e lines
left_turn coding cast v i l e (LineGetNow owner key ∷ lines) = left_turn coding cast v i (suc l) e lines
left_turn coding cast v i l e (LinePublish name ∷ lines) = left_turn coding cast v i (suc l) e lines
left_turn coding cast v i l e (LineLookup name ∷ lines) = left_turn coding cast v i (suc l) e lines
left_turn coding cast v i l e (LineLookupWait name ∷ lines) = left_turn coding cast v i (suc l) e lines
left_turn coding cast v i l e (LineUnpublish name ∷ lines) = left_turn coding cast v i (suc l) e lines
left_turn coding cast v i l e (LineUnpublishAll ∷ lines) = left_turn coding cast v i (suc l) e lines
left_turn coding cast v i l e (LineFixed reply ∷ lines) = left_turn coding cast v i (suc l) e lines

module _ (coding : Coding) (cast fuller : Cast) (v i : ℕ) (lines : List Line) where
  along_some : (xs : List ℕ) → ((x : ℕ) → is_member xs x ≡ true → (x ≡ v → ⊥) → FullerTurn cast fuller v i x lines) →
      Along (loop_labels i lines (filter (takes_more coding cast fuller v i lines) xs)) (loop_labels i lines (filter (takes coding cast fuller v i lines) xs))
      (some_pieces coding cast v i lines (filter (takes_more coding cast fuller v i lines) xs))
  unfolding some_pieces
  along_some [] ask = tt
  along_some (x ∷ xs) ask =
      go (standing coding cast fuller v i lines x (ask x (or_left (x == x) (is_member xs x) (eq-eqb x x refl)))) (along_some xs (λ y m. ask y (or_right (x == y) (is_member xs y) m)))
    where
      more : List ℕ
      more = filter (takes_more coding cast fuller v i lines) xs

      less : List ℕ
      less = filter (takes coding cast fuller v i lines) xs

      both_lists : (ys zs : List ℕ) → filter (takes_more coding cast fuller v i lines) (x ∷ xs) ≡ ys → filter (takes coding cast fuller v i lines) (x ∷ xs) ≡ zs →
          Along (loop_labels i lines ys) (loop_labels i lines zs) (some_pieces coding cast v i lines ys) →
          Along (loop_labels i lines (filter (takes_more coding cast fuller v i lines) (x ∷ xs))) (loop_labels i lines (filter (takes coding cast fuller v i lines) (x ∷ xs)))
          (some_pieces coding cast v i lines (filter (takes_more coding cast fuller v i lines) (x ∷ xs)))
      both_lists ys zs a b h =
          subst (λ us. Along (loop_labels i lines us) (loop_labels i lines (filter (takes coding cast fuller v i lines) (x ∷ xs))) (some_pieces coding cast v i lines us)) (sym a)
          (subst (λ us. Along (loop_labels i lines ys) (loop_labels i lines us) (some_pieces coding cast v i lines ys)) (sym b) h)

      go : Standing coding cast fuller v i lines x → Along (loop_labels i lines more) (loop_labels i lines less) (some_pieces coding cast v i lines more) →
          Along (loop_labels i lines (filter (takes_more coding cast fuller v i lines) (x ∷ xs))) (loop_labels i lines (filter (takes coding cast fuller v i lines) (x ∷ xs)))
          (some_pieces coding cast v i lines (filter (takes_more coding cast fuller v i lines) (x ∷ xs)))
      go (neither f c) rest = both_lists more less (cond-false _ _ _ f) (cond-false _ _ _ c) rest
      go (both f c t) rest = both_lists (x ∷ more) (x ∷ less) (cond-true _ _ _ f) (cond-true _ _ _ c)
          (subst (λ ps. Along (loop_labels i lines (x ∷ more)) (loop_labels i lines (x ∷ less)) (ps ++ some_pieces coding cast v i lines more)) (sym (cond-true _ _ _ t))
          (along_both (turn_labels i 0 x lines) (turn_labels i 0 x lines) (keep_calls (map (call_in coding cast v x) lines)) (loop_labels i lines more) (loop_labels i lines less) (some_pieces coding cast v i lines more)
          (kept_turn coding cast v i 0 x lines) rest))
      go (taken f c t r) rest = both_lists (x ∷ more) less (cond-true _ _ _ f) (cond-false _ _ _ c)
          (subst (λ ps. Along (loop_labels i lines (x ∷ more)) (loop_labels i lines less) (ps ++ some_pieces coding cast v i lines more)) (sym (cond-false _ _ _ t))
          (along_both (turn_labels i 0 x lines) [] (leave_calls (map (call_in coding cast v x) lines)) (loop_labels i lines more) (loop_labels i lines less) (some_pieces coding cast v i lines more)
          (left_turn coding cast v i 0 x lines) rest))

module _ (coding : Coding) (cast fuller : Cast) (same : fuller.roles ≡ cast.roles) (v : ℕ) where
  along_loop : (i : ℕ) (lines : List Line) (es : List ℕ) → Along (loop_labels i lines es) (loop_labels i lines es) (keep_calls (loop_calls coding cast v lines es))
  along_loop i lines [] = tt
  along_loop i lines (x ∷ es) =
      subst (λ ps. Along (loop_labels i lines (x ∷ es)) (loop_labels i lines (x ∷ es)) ps) (sym (kept_joined (map (call_in coding cast v x) lines) (loop_calls coding cast v lines es)))
      (along_both (turn_labels i 0 x lines) (turn_labels i 0 x lines) (keep_calls (map (call_in coding cast v x) lines)) (loop_labels i lines es) (loop_labels i lines es) (keep_calls (loop_calls coding cast v lines es))
      (kept_turn coding cast v i 0 x lines) (along_loop i lines es))
    where
      kept_joined : (xs ys : List Call) → keep_calls (xs ++ ys) ≡ keep_calls xs ++ keep_calls ys
      kept_joined xs ys = ap (map Kept) (kinds_append xs ys) ∙ map-append Kept (kinds_of xs) (kinds_of ys)

  along_step : (i : ℕ) (step : Step) → AskedHere cast v (FullerTurn cast fuller v) i step → Along (step_labels fuller v i step) (step_labels cast v i step) (step_pieces coding cast fuller v i step)
  unfolding step_pieces
  along_step i (Once line) ask = kept_turn coding cast v i 0 v (line ∷ [])
  along_step i (Loop role InOrder lines) ask =
      subst (λ es. Along (loop_labels i lines es) (loop_labels i lines (turns cast v i role InOrder)) (keep_calls (loop_calls coding cast v lines (turns cast v i role InOrder)))) (sym (in_order_same coding cast fuller same v i role))
      (along_loop i lines (turns cast v i role InOrder))
  along_step i (Loop role Round lines) ask =
      subst (λ es. Along (loop_labels i lines es) (loop_labels i lines (turns cast v i role Round)) (keep_calls (loop_calls coding cast v lines (turns cast v i role Round)))) (sym (round_same coding cast fuller same v i role))
      (along_loop i lines (turns cast v i role Round))
  along_step i (Loop role Chosen lines) ask =
      subst (λ roles. Along (loop_labels i lines (filter (takes_more coding cast fuller v i lines) (group role roles))) (loop_labels i lines (turns cast v i role Chosen))
      (some_pieces coding cast v i lines (filter (takes_more coding cast fuller v i lines) (group role roles)))) (sym same)
      (along_some coding cast fuller v i lines (group role cast.roles) ask)

  along_steps : (i : ℕ) (steps : List Step) → AskedFrom cast v (FullerTurn cast fuller v) i steps → Along (labels_from fuller v i steps) (labels_from cast v i steps) (pieces_from coding cast fuller v i steps)
  unfolding pieces_from
  along_steps i [] ask = tt
  along_steps i (step ∷ steps) ask =
      along_both (step_labels fuller v i step) (step_labels cast v i step) (step_pieces coding cast fuller v i step)
      (labels_from fuller v (suc i) steps) (labels_from cast v (suc i) steps) (pieces_from coding cast fuller v (suc i) steps)
      (along_step i step ask.0) (along_steps (suc i) steps ask.1)

module _ (pattern : Pattern) (coding : Coding) (cast fuller : Cast) (more : IsFuller pattern cast fuller) where
  abbrev small : Plan
  small = instance_of pattern coding cast

  abbrev large : Plan
  large = instance_of pattern coding fuller

  labels_along : (p : ℕ) → Along (labels_of pattern fuller p) (labels_of pattern cast p) (pieces pattern coding cast fuller more p)
  unfolding pieces
  labels_along p =
      subst (λ roles. Along (labels_from fuller p 0 (script_in pattern (slice_get roles p))) (labels_of pattern cast p) (pieces_from coding cast fuller p 0 (script_in pattern (slice_get cast.roles p)))) (sym more.roles)
      (along_steps coding cast fuller more.roles p 0 (script_in pattern (slice_get cast.roles p)) (asked pattern coding cast fuller more p))

  label_same : (x : Event) (k : Kind) → kind small x ≡ Some k
      → slice_get (labels_of pattern fuller x.proc) (place_in (pieces pattern coding cast fuller more x.proc) x.at) ≡ slice_get (labels_of pattern cast x.proc) x.at
  unfolding kind_at
  label_same x k is =
      along_at (labels_of pattern fuller x.proc) (labels_of pattern cast x.proc) (pieces pattern coding cast fuller more x.proc) (labels_along x.proc) x.at k
      (ap (λ ks. slice_get ks x.at) (sym ((adds pattern coding cast fuller more).kept x.proc)) ∙ is)

  -- an event and its image have one key
  pub key_fuller : (stages : Stages) (x : Event) (k : Kind) → kind small x ≡ Some k
      → key_of stages pattern coding fuller (image (in_place (pieces pattern coding cast fuller more)) x) ≡ key_of stages pattern coding cast x
  key_fuller stages x k is =
      ap (λ roles. key_in stages (slice_get roles x.proc) (slice_get (labels_of pattern fuller x.proc) (place_in (pieces pattern coding cast fuller more x.proc) x.at))
      (is_leave (kind large (image (in_place (pieces pattern coding cast fuller more)) x))) x.proc) more.roles
      ∙ ap (λ o. key_in stages (slice_get cast.roles x.proc) o (is_leave (kind large (image (in_place (pieces pattern coding cast fuller more)) x))) x.proc) (label_same x k is)
      ∙ ap (λ o. key_in stages (slice_get cast.roles x.proc) (slice_get (labels_of pattern cast x.proc) x.at) (is_leave o) x.proc)
      (kind_into small large (pieces pattern coding cast fuller more) (adds pattern coding cast fuller more) x k is ∙ sym is)

-- nodes say nothing of labels
nodes_step : (nodes : ℕ → ℕ) (cast : Cast) (v i : ℕ) (step : Step) → step_labels (on_nodes nodes cast) v i step ≡ step_labels cast v i step
nodes_step nodes cast v i (Once line) = refl
nodes_step nodes cast v i (Loop role InOrder lines) = refl
nodes_step nodes cast v i (Loop role Round lines) = refl
nodes_step nodes cast v i (Loop role Chosen lines) = refl

nodes_from : (nodes : ℕ → ℕ) (cast : Cast) (v i : ℕ) (steps : List Step) → labels_from (on_nodes nodes cast) v i steps ≡ labels_from cast v i steps
nodes_from nodes cast v i [] = refl
nodes_from nodes cast v i (step ∷ steps) =
    ap (λ ls. ls ++ labels_from (on_nodes nodes cast) v (suc i) steps) (nodes_step nodes cast v i step) ∙ ap (λ ls. step_labels cast v i step ++ ls) (nodes_from nodes cast v (suc i) steps)

pub labels_on : (nodes : ℕ → ℕ) (pattern : Pattern) (cast : Cast) (p : ℕ) → labels_of pattern (on_nodes nodes cast) p ≡ labels_of pattern cast p
labels_on nodes pattern cast p = nodes_from nodes cast p 0 (script_in pattern (slice_get cast.roles p))
