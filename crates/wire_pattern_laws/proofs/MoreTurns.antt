-- An instance whose loops of reads take more turns has the calls of the other one, and reads between them.
use Rattle.std.proofs.Common.{◌≡◌, ℕ, zero, suc, ◌+◌, ◌<◌, List, [], ◌∷◌, ◌++◌, map, length, Bool, true, false, not, ◌==◌, ◌&&◌, Option, Some, None, ◌⊎◌, inl, inr, refl, sym, ap, ◌∙◌, subst, arith, eq-eqb}
use Rattle.std.specs.Prelude.{slice_get, filter, cond}
use Rattle.std.proofs.lemmas.Bool.{cond-true, cond-false, cases_Bool, or_left, or_right, true≢false}
use Rattle.wire_runs.specs.Plan.{Call, Kind, kinds_of, node_of, process_node}
use Rattle.wire_runs.specs.Fences.{is_member}
use Rattle.wire_runs.specs.Embeddings.{image_kind}
use Rattle.wire_runs.specs.Parts.{Piece, Kept, Left, kept_kinds, all_kinds, in_place, LeavesReads, AddsReads}
use Rattle.wire_runs.specs.Patterns.{Line, LineGetNow, LineLookup}
use Rattle.wire_runs.specs.Patterns.{InOrder, Round, Chosen, Step, Once, Loop, Pattern, Coding, Cast, group, call_in, turns, loop_calls, step_calls, calls_from, processes_from, instance_of}
use Rattle.wire_runs.specs.Restrictions.{keep_calls, leave_calls, script_in}
use Rattle.wire_runs.proofs.RestrictedCalls.{kinds_append, kept_append, all_append, kept_kept, kept_left, all_kept, all_left, instance_kinds}
use Rattle.wire_runs.proofs.MoreReads.{kind_in_place, reads_keep_findings}
use Rattle.wire_pattern_laws.specs.Fuller.{only_reads, IsFuller, ReadsWhole}
use Rattle.wire_runs.proofs.SameRoles.{call_same, loop_same, in_order_same, round_same}
use Rattle.wire_pattern_laws.proofs.SameCalls.{Turn, AskedHere, AskedFrom, ask_all}

kinds_stay : (pieces : ℕ → List Piece) (ks : List Kind) → map (image_kind (in_place pieces)) ks ≡ ks
kinds_stay pieces [] = refl
kinds_stay pieces (k ∷ ks) = ap (λ l. l ∷ map (image_kind (in_place pieces)) ks) (kind_in_place pieces k) ∙ ap (λ ls. k ∷ ls) (kinds_stay pieces ks)

leaves_append : (xs ys : List Piece) → LeavesReads xs → LeavesReads ys → LeavesReads (xs ++ ys)
leaves_append [] ys a b = b
leaves_append (Kept k ∷ xs) ys a b = leaves_append xs ys a b
leaves_append (Left k ∷ xs) ys a b = (a.0, leaves_append xs ys a.1 b)

kept_leaves : (ks : List Kind) → LeavesReads (map Kept ks)
kept_leaves [] = tt
kept_leaves (k ∷ ks) = kept_leaves ks

lines_leave : (coding : Coding) (cast : Cast) (v e : ℕ) (lines : List Line) → only_reads lines ≡ true → LeavesReads (leave_calls (map (call_in coding cast v e) lines))
lines_leave coding cast v e [] reads = tt
lines_leave coding cast v e (LineGetNow owner key ∷ lines) reads = (tt, lines_leave coding cast v e lines reads)
lines_leave coding cast v e (LineLookup name ∷ lines) reads = (tt, lines_leave coding cast v e lines reads)
lines_leave coding cast v e (_ ∷ lines) reads = absurd (true≢false (sym reads))

-- the turns of an optional loop: those that the cast takes are kept
unfoldable pub some_pieces : Coding → Cast → ℕ → ℕ → List Line → List ℕ → List Piece
some_pieces coding cast v i lines [] = []
some_pieces coding cast v i lines (e ∷ es) =
    cond (cast.chosen v i e) (keep_calls (map (call_in coding cast v e) lines)) (leave_calls (map (call_in coding cast v e) lines)) ++ some_pieces coding cast v i lines es

unfoldable pub step_pieces : Coding → Cast → Cast → ℕ → ℕ → Step → List Piece
step_pieces coding cast fuller v i (Once line) = keep_calls (call_in coding cast v v line ∷ [])
step_pieces coding cast fuller v i (Loop role InOrder lines) = keep_calls (loop_calls coding cast v lines (turns cast v i role InOrder))
step_pieces coding cast fuller v i (Loop role Round lines) = keep_calls (loop_calls coding cast v lines (turns cast v i role Round))
step_pieces coding cast fuller v i (Loop role Chosen lines) = some_pieces coding cast v i lines (turns fuller v i role Chosen)

unfoldable pub pieces_from : Coding → Cast → Cast → ℕ → ℕ → List Step → List Piece
pieces_from coding cast fuller v i [] = []
pieces_from coding cast fuller v i (step ∷ steps) = step_pieces coding cast fuller v i step ++ pieces_from coding cast fuller v (suc i) steps

abbrev pub FullerTurn : Cast → Cast → ℕ → Turn
FullerTurn cast fuller v i e lines = (fuller.chosen v i e ≡ cast.chosen v i e) ⊎ ((only_reads lines ≡ true) × (fuller.chosen v i e ≡ true))

-- one optional loop
module _ (coding : Coding) (cast fuller : Cast) (v i : ℕ) (lines : List Line) where
  abbrev pub takes : ℕ → Bool
  takes e = not (e == v) && cast.chosen v i e

  abbrev pub takes_more : ℕ → Bool
  takes_more e = not (e == v) && fuller.chosen v i e

  -- how a turn stands: there is none, neither takes it, both do, or the fuller one alone and the lines read
  pub data Standing (e : ℕ) : Type 0 where
    neither : takes_more e ≡ false → takes e ≡ false → Standing e
    both : takes_more e ≡ true → takes e ≡ true → cast.chosen v i e ≡ true → Standing e
    taken : takes_more e ≡ true → takes e ≡ false → cast.chosen v i e ≡ false → only_reads lines ≡ true → Standing e

  pub standing : (e : ℕ) → ((e ≡ v → ⊥) → FullerTurn cast fuller v i e lines) → Standing e
  standing e ask = elim (cases_Bool (e == v)) [
    | inl t ↦ neither (ap (λ c. not c && fuller.chosen v i e) t) (ap (λ c. not c && cast.chosen v i e) t)
    | inr f ↦ go f (cases_Bool (cast.chosen v i e)) (ask (λ s. true≢false (sym (eq-eqb e v s) ∙ f)))
  ]
    where
      go : (e == v) ≡ false → (cast.chosen v i e ≡ true) ⊎ (cast.chosen v i e ≡ false) → FullerTurn cast fuller v i e lines → Standing e
      go f (inl t) (inl s) = both (ap (λ c. not c && fuller.chosen v i e) f ∙ s ∙ t) (ap (λ c. not c && cast.chosen v i e) f ∙ t) t
      go f (inl t) (inr r) = both (ap (λ c. not c && fuller.chosen v i e) f ∙ r.1) (ap (λ c. not c && cast.chosen v i e) f ∙ t) t
      go f (inr n) (inl s) = neither (ap (λ c. not c && fuller.chosen v i e) f ∙ s ∙ n) (ap (λ c. not c && cast.chosen v i e) f ∙ n)
      go f (inr n) (inr r) = taken (ap (λ c. not c && fuller.chosen v i e) f ∙ r.1) (ap (λ c. not c && cast.chosen v i e) f ∙ n) n r.0

  abbrev pub parts : List ℕ → List Piece
  parts es = some_pieces coding cast v i lines es

  kept_turn : (e : ℕ) (es : List ℕ) → cast.chosen v i e ≡ true → kept_kinds (parts (e ∷ es)) ≡ kinds_of (map (call_in coding cast v e) lines) ++ kept_kinds (parts es)
  unfolding some_pieces
  kept_turn e es t =
      ap (λ ps. kept_kinds (ps ++ parts es)) (cond-true _ _ _ t) ∙ kept_append (keep_calls (map (call_in coding cast v e) lines)) (parts es)
      ∙ ap (λ ks. ks ++ kept_kinds (parts es)) (kept_kept (kinds_of (map (call_in coding cast v e) lines)))

  left_turn : (e : ℕ) (es : List ℕ) → cast.chosen v i e ≡ false → kept_kinds (parts (e ∷ es)) ≡ kept_kinds (parts es)
  unfolding some_pieces
  left_turn e es n =
      ap (λ ps. kept_kinds (ps ++ parts es)) (cond-false _ _ _ n) ∙ kept_append (leave_calls (map (call_in coding cast v e) lines)) (parts es)
      ∙ ap (λ ks. ks ++ kept_kinds (parts es)) (kept_left (kinds_of (map (call_in coding cast v e) lines)))

  kept_some : (xs : List ℕ) → ((e : ℕ) → is_member xs e ≡ true → (e ≡ v → ⊥) → FullerTurn cast fuller v i e lines) →
      kept_kinds (parts (filter takes_more xs)) ≡ kinds_of (loop_calls coding cast v lines (filter takes xs))
  unfolding some_pieces
  kept_some [] ask = refl
  kept_some (x ∷ xs) ask = go (standing x (ask x (or_left (x == x) (is_member xs x) (eq-eqb x x refl)))) (kept_some xs (λ e m. ask e (or_right (x == e) (is_member xs e) m)))
    where
      go : Standing x → kept_kinds (parts (filter takes_more xs)) ≡ kinds_of (loop_calls coding cast v lines (filter takes xs)) →
          kept_kinds (parts (filter takes_more (x ∷ xs))) ≡ kinds_of (loop_calls coding cast v lines (filter takes (x ∷ xs)))
      go (neither f c) rest = ap (λ es. kept_kinds (parts es)) (cond-false _ _ _ f) ∙ rest ∙ sym (ap (λ es. kinds_of (loop_calls coding cast v lines es)) (cond-false _ _ _ c))
      go (both f c t) rest =
          ap (λ es. kept_kinds (parts es)) (cond-true _ _ _ f) ∙ kept_turn x (filter takes_more xs) t ∙ ap (λ ks. kinds_of (map (call_in coding cast v x) lines) ++ ks) rest
          ∙ sym (kinds_append (map (call_in coding cast v x) lines) (loop_calls coding cast v lines (filter takes xs)))
          ∙ sym (ap (λ es. kinds_of (loop_calls coding cast v lines es)) (cond-true _ _ _ c))
      go (taken f c n r) rest =
          ap (λ es. kept_kinds (parts es)) (cond-true _ _ _ f) ∙ left_turn x (filter takes_more xs) n ∙ rest
          ∙ sym (ap (λ es. kinds_of (loop_calls coding cast v lines es)) (cond-false _ _ _ c))

  reads_some : (xs : List ℕ) → ((e : ℕ) → is_member xs e ≡ true → (e ≡ v → ⊥) → FullerTurn cast fuller v i e lines) → LeavesReads (parts (filter takes_more xs))
  unfolding some_pieces
  reads_some [] ask = tt
  reads_some (x ∷ xs) ask = go (standing x (ask x (or_left (x == x) (is_member xs x) (eq-eqb x x refl)))) (reads_some xs (λ e m. ask e (or_right (x == e) (is_member xs e) m)))
    where
      go : Standing x → LeavesReads (parts (filter takes_more xs)) → LeavesReads (parts (filter takes_more (x ∷ xs)))
      go (neither f c) rest = subst (λ es. LeavesReads (parts es)) (sym (cond-false _ _ _ f)) rest
      go (both f c t) rest = subst (λ es. LeavesReads (parts es)) (sym (cond-true _ _ _ f))
          (subst (λ ps. LeavesReads (ps ++ parts (filter takes_more xs))) (sym (cond-true _ _ _ t))
          (leaves_append (keep_calls (map (call_in coding cast v x) lines)) (parts (filter takes_more xs)) (kept_leaves (kinds_of (map (call_in coding cast v x) lines))) rest))
      go (taken f c n r) rest = subst (λ es. LeavesReads (parts es)) (sym (cond-true _ _ _ f))
          (subst (λ ps. LeavesReads (ps ++ parts (filter takes_more xs))) (sym (cond-false _ _ _ n))
          (leaves_append (leave_calls (map (call_in coding cast v x) lines)) (parts (filter takes_more xs)) (lines_leave coding cast v x lines r) rest))

  module _ (same : fuller.roles ≡ cast.roles) (pieces : ℕ → List Piece) where
    turn_all : (e : ℕ) (c : Bool) → all_kinds (in_place pieces) (cond c (keep_calls (map (call_in coding cast v e) lines)) (leave_calls (map (call_in coding cast v e) lines)))
        ≡ kinds_of (map (call_in coding cast v e) lines)
    turn_all e true = all_kept (in_place pieces) (kinds_of (map (call_in coding cast v e) lines)) ∙ kinds_stay pieces (kinds_of (map (call_in coding cast v e) lines))
    turn_all e false = all_left (in_place pieces) (kinds_of (map (call_in coding cast v e) lines))

    all_some : (es : List ℕ) → all_kinds (in_place pieces) (parts es) ≡ kinds_of (loop_calls coding cast v lines es)
    unfolding some_pieces
    all_some [] = refl
    all_some (e ∷ es) =
        all_append (in_place pieces) (cond (cast.chosen v i e) (keep_calls (map (call_in coding cast v e) lines)) (leave_calls (map (call_in coding cast v e) lines))) (parts es)
        ∙ ap (λ ks. ks ++ all_kinds (in_place pieces) (parts es)) (turn_all e (cast.chosen v i e))
        ∙ ap (λ ks. kinds_of (map (call_in coding cast v e) lines) ++ ks) (all_some es)
        ∙ sym (kinds_append (map (call_in coding cast v e) lines) (loop_calls coding cast v lines es))

-- a script
module _ (coding : Coding) (cast fuller : Cast) (same : fuller.roles ≡ cast.roles) (v : ℕ) where
  kept_step : (i : ℕ) (step : Step) → AskedHere cast v (FullerTurn cast fuller v) i step → kept_kinds (step_pieces coding cast fuller v i step) ≡ kinds_of (step_calls coding cast v i step)
  unfolding step_pieces
  kept_step i (Once line) ask = kept_kept _
  kept_step i (Loop role InOrder lines) ask = kept_kept _
  kept_step i (Loop role Round lines) ask = kept_kept _
  kept_step i (Loop role Chosen lines) ask =
      ap (λ roles. kept_kinds (some_pieces coding cast v i lines (filter (λ e. not (e == v) && fuller.chosen v i e) (group role roles)))) same
      ∙ kept_some coding cast fuller v i lines (group role cast.roles) ask

  reads_step : (i : ℕ) (step : Step) → AskedHere cast v (FullerTurn cast fuller v) i step → LeavesReads (step_pieces coding cast fuller v i step)
  unfolding step_pieces
  reads_step i (Once line) ask = kept_leaves (kinds_of (call_in coding cast v v line ∷ []))
  reads_step i (Loop role InOrder lines) ask = kept_leaves (kinds_of (loop_calls coding cast v lines (turns cast v i role InOrder)))
  reads_step i (Loop role Round lines) ask = kept_leaves (kinds_of (loop_calls coding cast v lines (turns cast v i role Round)))
  reads_step i (Loop role Chosen lines) ask =
      subst (λ roles. LeavesReads (some_pieces coding cast v i lines (filter (λ e. not (e == v) && fuller.chosen v i e) (group role roles)))) (sym same)
      (reads_some coding cast fuller v i lines (group role cast.roles) ask)

  kept_all_stay : (pieces : ℕ → List Piece) (calls : List Call) → all_kinds (in_place pieces) (keep_calls calls) ≡ kinds_of calls
  kept_all_stay pieces calls = all_kept (in_place pieces) (kinds_of calls) ∙ kinds_stay pieces (kinds_of calls)

  all_step : (pieces : ℕ → List Piece) (i : ℕ) (step : Step) → all_kinds (in_place pieces) (step_pieces coding cast fuller v i step) ≡ kinds_of (step_calls coding fuller v i step)
  unfolding step_pieces
  all_step pieces i (Once line) = kept_all_stay pieces (call_in coding cast v v line ∷ []) ∙ ap (λ c. kinds_of (c ∷ [])) (sym (call_same coding cast fuller same v v line))
  all_step pieces i (Loop role InOrder lines) = kept_all_stay pieces _
      ∙ ap kinds_of (sym (loop_same coding cast fuller same v lines (turns fuller v i role InOrder) ∙ ap (loop_calls coding cast v lines) (in_order_same coding cast fuller same v i role)))
  all_step pieces i (Loop role Round lines) = kept_all_stay pieces _
      ∙ ap kinds_of (sym (loop_same coding cast fuller same v lines (turns fuller v i role Round) ∙ ap (loop_calls coding cast v lines) (round_same coding cast fuller same v i role)))
  all_step pieces i (Loop role Chosen lines) =
      all_some coding cast fuller v i lines same pieces (turns fuller v i role Chosen) ∙ ap kinds_of (sym (loop_same coding cast fuller same v lines (turns fuller v i role Chosen)))

  kept_from : (i : ℕ) (steps : List Step) → AskedFrom cast v (FullerTurn cast fuller v) i steps → kept_kinds (pieces_from coding cast fuller v i steps) ≡ kinds_of (calls_from coding cast v i steps)
  unfolding pieces_from
  kept_from i [] ask = refl
  kept_from i (step ∷ steps) ask =
      kept_append (step_pieces coding cast fuller v i step) (pieces_from coding cast fuller v (suc i) steps)
      ∙ ap (λ ks. ks ++ kept_kinds (pieces_from coding cast fuller v (suc i) steps)) (kept_step i step ask.0)
      ∙ ap (λ ks. kinds_of (step_calls coding cast v i step) ++ ks) (kept_from (suc i) steps ask.1)
      ∙ sym (kinds_append (step_calls coding cast v i step) (calls_from coding cast v (suc i) steps))

  reads_from : (i : ℕ) (steps : List Step) → AskedFrom cast v (FullerTurn cast fuller v) i steps → LeavesReads (pieces_from coding cast fuller v i steps)
  unfolding pieces_from
  reads_from i [] ask = tt
  reads_from i (step ∷ steps) ask = leaves_append (step_pieces coding cast fuller v i step) (pieces_from coding cast fuller v (suc i) steps) (reads_step i step ask.0) (reads_from (suc i) steps ask.1)

  all_from : (pieces : ℕ → List Piece) (i : ℕ) (steps : List Step) → all_kinds (in_place pieces) (pieces_from coding cast fuller v i steps) ≡ kinds_of (calls_from coding fuller v i steps)
  unfolding pieces_from
  all_from pieces i [] = refl
  all_from pieces i (step ∷ steps) =
      all_append (in_place pieces) (step_pieces coding cast fuller v i step) (pieces_from coding cast fuller v (suc i) steps)
      ∙ ap (λ ks. ks ++ all_kinds (in_place pieces) (pieces_from coding cast fuller v (suc i) steps)) (all_step pieces i step)
      ∙ ap (λ ks. kinds_of (step_calls coding fuller v i step) ++ ks) (all_from pieces (suc i) steps)
      ∙ sym (kinds_append (step_calls coding fuller v i step) (calls_from coding fuller v (suc i) steps))

-- nodes that agree
nodes_in : (pattern : Pattern) (coding : Coding) (a b : Cast) (q : ℕ) (roles : List ℕ) (p : ℕ) → ((k : ℕ) → k < length roles → b.nodes (q + k) ≡ a.nodes (q + k)) →
    process_node (slice_get (processes_from pattern coding b q roles) p) ≡ process_node (slice_get (processes_from pattern coding a q roles) p)
nodes_in pattern coding a b q [] p same = refl
nodes_in pattern coding a b q (role ∷ roles) zero same = let s : q ≡ q + 0 = omega arith in ap b.nodes s ∙ same 0 (omega arith) ∙ ap a.nodes (sym s)
nodes_in pattern coding a b q (role ∷ roles) (suc p) same =
    nodes_in pattern coding a b (suc q) roles p (λ k l. let s : suc q + k ≡ q + suc k = omega arith in ap b.nodes s ∙ same (suc k) (omega (arith, l)) ∙ ap a.nodes (sym s))

module _ (pattern : Pattern) (coding : Coding) (cast fuller : Cast) (more : IsFuller pattern cast fuller) where
  unfoldable pub pieces : ℕ → List Piece
  pieces p = pieces_from coding cast fuller p 0 (script_in pattern (slice_get cast.roles p))

  pub asked : (p : ℕ) → AskedFrom cast p (FullerTurn cast fuller p) 0 (script_in pattern (slice_get cast.roles p))
  asked p = go (slice_get cast.roles p) refl
    where
      go : (o : Option ℕ) → slice_get cast.roles p ≡ o → AskedFrom cast p (FullerTurn cast fuller p) 0 (script_in pattern o)
      go None is = tt
      go (Some role) is = ask_all pattern cast p role is (FullerTurn cast fuller p) (λ i e lines may. more.turns p i e lines may)

  node_same : (p : ℕ) → node_of (instance_of pattern coding fuller) p ≡ node_of (instance_of pattern coding cast) p
  unfolding node_of
  node_same p =
      ap (λ roles. process_node (slice_get (processes_from pattern coding fuller 0 roles) p)) more.roles
      ∙ nodes_in pattern coding cast fuller 0 cast.roles p (λ k l. let s : 0 + k ≡ k = omega arith in ap fuller.nodes s ∙ more.nodes k l ∙ ap cast.nodes (sym s))

  pub adds : AddsReads (instance_of pattern coding cast) (instance_of pattern coding fuller) pieces
  unfolding pieces
  adds = record {
    kept = λ p. instance_kinds pattern coding cast p ∙ sym (kept_from coding cast fuller more.roles p 0 (script_in pattern (slice_get cast.roles p)) (asked p));
    all = λ p. instance_kinds pattern coding fuller p ∙ ap (λ roles. kinds_of (calls_from coding fuller p 0 (script_in pattern (slice_get roles p)))) more.roles
        ∙ sym (all_from coding cast fuller more.roles p pieces 0 (script_in pattern (slice_get cast.roles p)));
    reads = λ p. reads_from coding cast fuller more.roles p 0 (script_in pattern (slice_get cast.roles p)) (asked p);
    nodes = node_same;
    keeps = refl;
  }

pub reads_whole : ReadsWhole
reads_whole pattern coding cast fuller more settled =
    reads_keep_findings (instance_of pattern coding cast) (instance_of pattern coding fuller) (pieces pattern coding cast fuller more) (adds pattern coding cast fuller more) settled
