-- One rank fewer, process by process: what is kept and left of the calls fits together.
use Rattle.std.proofs.Common.{◌≡◌, ◌≢◌, ℕ, suc, List, [], ◌∷◌, ◌++◌, map, Bool, true, false, not, ◌&&◌, ◌||◌, ◌==◌, nat_lt, Option, Some, None, get_or, inl, inr, refl, sym, ap, ◌∙◌, subst, eq-eqb, ne_eqb, eqb-true}
use Rattle.std.specs.Prelude.{slice_get, filter, cond}
use Rattle.std.specs.List.{list_all}
use Rattle.std.proofs.lemmas.Bool.{cond-true, cond-false, cases_eq, cases_Bool, or_cases, or_left, or_right, or_parts, true≢false}
use Rattle.std.proofs.lemmas.List.{map-append}
use Rattle.std.proofs.lemmas.List.Folds.{list_any-append}
use Rattle.std.proofs.lemmas.List.Elements.{filter-append, filter_agree}
use Rattle.wire_runs.specs.Plan.{Plan}
use Rattle.wire_runs.specs.Plan.{Kind, Put, Arrive, Leave, Get, GetNow, Publish, Lookup, LookupWait, Unpublish, kinds_of, kinds, set_of}
use Rattle.wire_runs.specs.Fences.{is_member}
use Rattle.wire_runs.specs.Embeddings.{Renaming, image_kind, IsSetOf}
use Rattle.wire_runs.specs.Parts.{Piece, Left, kept_kinds, all_kinds, Fits, IsPartEach}
use Rattle.wire_runs.specs.Patterns.{Who, Only, Self, Each, Item, Every, One, Word, Line, LinePut, LineCommit, LineFence, LineGet, LineGetNow, LinePublish, LineLookup, LineLookupWait, LineUnpublish, LineUnpublishAll, LineFixed}
use Rattle.wire_runs.specs.Patterns.{Turns, InOrder, Round, Chosen, Step, Once, Loop, Pattern, Coding, Cast, group, who, members_in, word_code, call_in, turns, loop_calls, step_calls, calls_from, instance_of}
use Rattle.wire_runs.specs.Patterns.{names_each, has_each, has_every, IsLoopLine, AreLoopLines, waits_line, waits_lines, has_commit, KnowsAll, KnowsItems, KnowsLine, IsLawfulStep, waits_step, AreSteps}
use Rattle.wire_runs.specs.Restrictions.{skip, back, without, restricted, renamed_code, keep_calls, leave_calls, loop_pieces, step_pieces, pieces_from, script_in, pieces_of, removal, CanGo}
use Rattle.wire_runs.proofs.Basics.{list_all_at_member}
use Rattle.wire_runs.proofs.Skip.{skip_eq, skip_lt, skip_not, skip_one, skip_back, back_skip, without_get, group_skip, filter_map, filter_comm}
use Rattle.wire_runs.proofs.WholeSets.{rises_group, same_set, member_set, again_member, again_member_r, group_member, plays, not_two, three_left, who_same, member_group, single_stays, single_other, sets_same}
use Rattle.wire_runs.proofs.RestrictedCalls.{instance_kinds, set_of_rises, kinds_append, kept_append, all_append, kept_kept, kept_left, all_kept, all_left, after, fits_append, after_append, kept_fits, left_after, lines_after, one_line, code_one, code_not, each_in, each_member}

module _ (pattern : Pattern) (coding : Coding) (cast : Cast) (r role : ℕ) (can : CanGo pattern cast r role) where
  abbrev to : Renaming
  to = removal pattern coding cast r role

  abbrev small : Plan
  small = instance_of pattern coding (restricted r cast)

  abbrev large : Plan
  large = instance_of pattern coding cast

  abbrev fewer : Cast
  fewer = restricted r cast

  abbrev renames : Kind → Kind
  renames = image_kind to

  -- words and lines
  indices_same : (p e : ℕ) (ws : List Who) → KnowsAll pattern.single ws → map (skip r) (map (who fewer p e) ws) ≡ map (who cast (skip r p) (skip r e)) ws
  indices_same p e [] known = refl
  indices_same p e (w ∷ ws) known =
      ap (λ v. v ∷ map (skip r) (map (who fewer p e) ws)) (sym (who_same pattern cast r role can p e w known.0)) ∙ ap (λ vs. who cast (skip r p) (skip r e) w ∷ vs) (indices_same p e ws known.1)

  pub word_same : (p e : ℕ) (word : Word) → KnowsAll pattern.single word.indices →
      renamed_code coding r (word_code coding fewer p e word) (coding.decode (word_code coding fewer p e word)) ≡ word_code coding cast (skip r p) (skip r e) word
  word_same p e word known =
      ap (renamed_code coding r (word_code coding fewer p e word)) (coding.decodes word.base (map (who fewer p e) word.indices)) ∙ ap (coding.code word.base) (indices_same p e word.indices known)

  pub line_same : (p e : ℕ) (line : Line) → KnowsLine pattern.single line → map renames (kinds_of (call_in coding fewer p e line ∷ [])) ≡ kinds_of (call_in coding cast (skip r p) (skip r e) line ∷ [])
  line_same p e (LinePut key scope) known = ap (λ n. Put n scope ∷ []) (word_same p e key known)
  line_same p e LineCommit known = refl
  line_same p e (LineFence items collect) known = ap (λ ms. Arrive ms collect ∷ (Leave ms ∷ [])) (sets_same pattern cast r role can p e items known)
  line_same p e (LineGet owner key) known =
      ap (λ n. Get n (to.key (word_code coding fewer p e key)) ∷ []) (sym (who_same pattern cast r role can p e owner known.0)) ∙ ap (λ n. Get (who cast (skip r p) (skip r e) owner) n ∷ []) (word_same p e key known.1)
  line_same p e (LineGetNow owner key) known =
      ap (λ n. GetNow n (to.key (word_code coding fewer p e key)) ∷ []) (sym (who_same pattern cast r role can p e owner known.0)) ∙ ap (λ n. GetNow (who cast (skip r p) (skip r e) owner) n ∷ []) (word_same p e key known.1)
  line_same p e (LinePublish name) known = ap (λ n. Publish n ∷ []) (word_same p e name known)
  line_same p e (LineLookup name) known = ap (λ n. Lookup n ∷ []) (word_same p e name known)
  line_same p e (LineLookupWait name) known = ap (λ n. LookupWait n ∷ []) (word_same p e name known)
  line_same p e (LineUnpublish name) known = ap (λ n. Unpublish n ∷ []) (word_same p e name known)
  line_same p e LineUnpublishAll known = refl
  line_same p e (LineFixed reply) known = refl

  pub lines_same : (p e other : ℕ) (mode : Turns) (lines : List Line) → AreLoopLines pattern.single other mode lines →
      map renames (kinds_of (map (call_in coding fewer p e) lines)) ≡ kinds_of (map (call_in coding cast (skip r p) (skip r e)) lines)
  lines_same p e other mode [] known = refl
  lines_same p e other mode (line ∷ lines) known =
      ap (map renames) (kinds_append (call_in coding fewer p e line ∷ []) (map (call_in coding fewer p e) lines))
      ∙ map-append renames (kinds_of (call_in coding fewer p e line ∷ [])) (kinds_of (map (call_in coding fewer p e) lines))
      ∙ ap (λ ks. ks ++ map renames (kinds_of (map (call_in coding fewer p e) lines))) (line_same p e line known.0.0)
      ∙ ap (λ ks. kinds_of (call_in coding cast (skip r p) (skip r e) line ∷ []) ++ ks) (lines_same p e other mode lines known.1)
      ∙ sym (kinds_append (call_in coding cast (skip r p) (skip r e) line ∷ []) (map (call_in coding cast (skip r p) (skip r e)) lines))

  -- turns
  abbrev others : List ℕ → List ℕ
  others es = filter (λ e. not (e == r)) es

  filtered : (f g : ℕ → Bool) (group_role : ℕ) → ((e : ℕ) → f (skip r e) ≡ g e) → map (skip r) (filter g (group group_role (without r cast.roles))) ≡ others (filter f (group group_role cast.roles))
  filtered f g group_role same =
      ap (map (skip r)) (filter_agree g (λ e. f (skip r e)) (λ e. sym (same e)) (group group_role (without r cast.roles)))
      ∙ sym (filter_map f (skip r) (group group_role (without r cast.roles)))
      ∙ ap (filter f) (group_skip group_role r cast.roles)
      ∙ filter_comm f (λ e. not (e == r)) (group group_role cast.roles)

  pub turns_skip : (p i group_role : ℕ) (mode : Turns) → map (skip r) (turns fewer p i group_role mode) ≡ others (turns cast (skip r p) i group_role mode)
  turns_skip p i group_role InOrder = filtered (λ e. not (e == skip r p)) (λ e. not (e == p)) group_role (λ e. ap not (skip_eq r e p))
  turns_skip p i group_role Round = elim (cases_Bool (is_member (group group_role fewer.roles) p)) [
    | inl t ↦ ap (map (skip r)) (cond-true _ _ (filter (λ e. not (e == p)) (group group_role fewer.roles)) t)
        ∙ map-append (skip r) (filter (λ e. nat_lt p e) (group group_role (without r cast.roles))) (filter (λ e. nat_lt e p) (group group_role (without r cast.roles)))
        ∙ ap (λ xs. xs ++ map (skip r) (filter (λ e. nat_lt e p) (group group_role (without r cast.roles)))) (filtered (λ e. nat_lt (skip r p) e) (λ e. nat_lt p e) group_role (λ e. skip_lt r p e))
        ∙ ap (λ ys. others (filter (λ e. nat_lt (skip r p) e) (group group_role cast.roles)) ++ ys) (filtered (λ e. nat_lt e (skip r p)) (λ e. nat_lt e p) group_role (λ e. skip_lt r e p))
        ∙ sym (filter-append (λ e. not (e == r)) (filter (λ e. nat_lt (skip r p) e) (group group_role cast.roles)) (filter (λ e. nat_lt e (skip r p)) (group group_role cast.roles)))
        ∙ sym (ap others (cond-true _ _ (filter (λ e. not (e == skip r p)) (group group_role cast.roles)) (member_group pattern cast r role can group_role p ∙ t)))
    | inr f ↦ ap (map (skip r)) (cond-false _ (filter (λ e. nat_lt p e) (group group_role fewer.roles) ++ filter (λ e. nat_lt e p) (group group_role fewer.roles)) _ f)
        ∙ filtered (λ e. not (e == skip r p)) (λ e. not (e == p)) group_role (λ e. ap not (skip_eq r e p))
        ∙ sym (ap others (cond-false _ (filter (λ e. nat_lt (skip r p) e) (group group_role cast.roles) ++ filter (λ e. nat_lt e (skip r p)) (group group_role cast.roles)) _
        (member_group pattern cast r role can group_role p ∙ f)))
  ]
  turns_skip p i group_role Chosen =
      filtered (λ e. not (e == skip r p) && cast.chosen (skip r p) i e) (λ e. not (e == p) && cast.chosen (skip r p) i (skip r e)) group_role
      (λ e. ap (λ b. not b && cast.chosen (skip r p) i (skip r e)) (skip_eq r e p))

  map_back : (xs : List ℕ) → map (back r) (map (skip r) xs) ≡ xs
  map_back [] = refl
  map_back (x ∷ xs) = ap (λ v. v ∷ map (back r) (map (skip r) xs)) (back_skip r x) ∙ ap (λ vs. x ∷ vs) (map_back xs)

  turns_back : (p i group_role : ℕ) (mode : Turns) → map (back r) (others (turns cast (skip r p) i group_role mode)) ≡ turns fewer p i group_role mode
  turns_back p i group_role mode = ap (map (back r)) (sym (turns_skip p i group_role mode)) ∙ map_back (turns fewer p i group_role mode)

  -- loops
  module _ (p other : ℕ) (mode : Turns) (lines : List Line) (known : AreLoopLines pattern.single other mode lines) where
    abbrev turn : ℕ → List Piece
    turn e = cond (e == r) (leave_calls (map (call_in coding cast (skip r p) e) lines)) (keep_calls (map (call_in coding fewer p (back r e)) lines))

    turn_all : (e : ℕ) → all_kinds to (turn e) ≡ kinds_of (map (call_in coding cast (skip r p) e) lines)
    turn_all e = elim (cases_eq e r) [
      | inl s ↦ ap (all_kinds to) (cond-true (e == r) _ _ (eq-eqb e r s)) ∙ all_left to (kinds_of (map (call_in coding cast (skip r p) e) lines))
      | inr ne ↦ ap (all_kinds to) (cond-false (e == r) _ _ (ne_eqb e r ne)) ∙ all_kept to (kinds_of (map (call_in coding fewer p (back r e)) lines))
          ∙ lines_same p (back r e) other mode lines known ∙ ap (λ v. kinds_of (map (call_in coding cast (skip r p) v) lines)) (skip_back r e ne)
    ]

    loop_all : (es : List ℕ) → all_kinds to (loop_pieces coding cast r p lines es) ≡ kinds_of (loop_calls coding cast (skip r p) lines es)
    loop_all [] = refl
    loop_all (e ∷ es) =
        all_append to (turn e) (loop_pieces coding cast r p lines es)
        ∙ ap (λ ks. ks ++ all_kinds to (loop_pieces coding cast r p lines es)) (turn_all e)
        ∙ ap (λ ks. kinds_of (map (call_in coding cast (skip r p) e) lines) ++ ks) (loop_all es)
        ∙ sym (kinds_append (map (call_in coding cast (skip r p) e) lines) (loop_calls coding cast (skip r p) lines es))

    loop_kept : (es : List ℕ) → kept_kinds (loop_pieces coding cast r p lines es) ≡ kinds_of (loop_calls coding fewer p lines (map (back r) (others es)))
    loop_kept [] = refl
    loop_kept (e ∷ es) = elim (cases_eq e r) [
      | inl s ↦ ap (λ ps. kept_kinds (ps ++ loop_pieces coding cast r p lines es)) (cond-true (e == r) _ _ (eq-eqb e r s))
          ∙ kept_append (leave_calls (map (call_in coding cast (skip r p) e) lines)) (loop_pieces coding cast r p lines es)
          ∙ ap (λ ks. ks ++ kept_kinds (loop_pieces coding cast r p lines es)) (kept_left (kinds_of (map (call_in coding cast (skip r p) e) lines)))
          ∙ loop_kept es
          ∙ sym (ap (λ vs. kinds_of (loop_calls coding fewer p lines (map (back r) vs))) (cond-false _ (e ∷ others es) (others es) (ap not (eq-eqb e r s))))
      | inr ne ↦ ap (λ ps. kept_kinds (ps ++ loop_pieces coding cast r p lines es)) (cond-false (e == r) _ _ (ne_eqb e r ne))
          ∙ kept_append (keep_calls (map (call_in coding fewer p (back r e)) lines)) (loop_pieces coding cast r p lines es)
          ∙ ap (λ ks. ks ++ kept_kinds (loop_pieces coding cast r p lines es)) (kept_kept (kinds_of (map (call_in coding fewer p (back r e)) lines)))
          ∙ ap (λ ks. kinds_of (map (call_in coding fewer p (back r e)) lines) ++ ks) (loop_kept es)
          ∙ sym (kinds_append (map (call_in coding fewer p (back r e)) lines) (loop_calls coding fewer p lines (map (back r) (others es))))
          ∙ sym (ap (λ vs. kinds_of (loop_calls coding fewer p lines (map (back r) vs))) (cond-true _ (e ∷ others es) (others es) (ap not (ne_eqb e r ne))))
    ]

  -- steps
  step_all : (waits : Bool) (p i : ℕ) (step : Step) → IsLawfulStep pattern.single waits step → all_kinds to (step_pieces coding cast r p i step) ≡ kinds_of (step_calls coding cast (skip r p) i step)
  step_all waits p i (Once line) known = all_kept to (kinds_of (call_in coding fewer p p line ∷ [])) ∙ line_same p p line known
  step_all waits p i (Loop other mode lines) known = loop_all p other mode lines known.0 (turns cast (skip r p) i other mode)

  step_kept : (waits : Bool) (p i : ℕ) (step : Step) → IsLawfulStep pattern.single waits step → kept_kinds (step_pieces coding cast r p i step) ≡ kinds_of (step_calls coding fewer p i step)
  step_kept waits p i (Once line) known = kept_kept (kinds_of (call_in coding fewer p p line ∷ []))
  step_kept waits p i (Loop other mode lines) known =
      loop_kept p other mode lines known.0 (turns cast (skip r p) i other mode) ∙ ap (λ es. kinds_of (loop_calls coding fewer p lines es)) (turns_back p i other mode)

  steps_all : (waits : Bool) (p i : ℕ) (steps : List Step) → AreSteps pattern.single waits steps → all_kinds to (pieces_from coding cast r p i steps) ≡ kinds_of (calls_from coding cast (skip r p) i steps)
  steps_all waits p i [] known = refl
  steps_all waits p i (step ∷ steps) known =
      all_append to (step_pieces coding cast r p i step) (pieces_from coding cast r p (suc i) steps)
      ∙ ap (λ ks. ks ++ all_kinds to (pieces_from coding cast r p (suc i) steps)) (step_all waits p i step known.0)
      ∙ ap (λ ks. kinds_of (step_calls coding cast (skip r p) i step) ++ ks) (steps_all (waits_step waits step) p (suc i) steps known.1)
      ∙ sym (kinds_append (step_calls coding cast (skip r p) i step) (calls_from coding cast (skip r p) (suc i) steps))

  steps_kept : (waits : Bool) (p i : ℕ) (steps : List Step) → AreSteps pattern.single waits steps → kept_kinds (pieces_from coding cast r p i steps) ≡ kinds_of (calls_from coding fewer p i steps)
  steps_kept waits p i [] known = refl
  steps_kept waits p i (step ∷ steps) known =
      kept_append (step_pieces coding cast r p i step) (pieces_from coding cast r p (suc i) steps)
      ∙ ap (λ ks. ks ++ kept_kinds (pieces_from coding cast r p (suc i) steps)) (step_kept waits p i step known.0)
      ∙ ap (λ ks. kinds_of (step_calls coding fewer p i step) ++ ks) (steps_kept (waits_step waits step) p (suc i) steps known.1)
      ∙ sym (kinds_append (step_calls coding fewer p i step) (calls_from coding fewer p (suc i) steps))

  pub script_known : (o : Option ℕ) → AreSteps pattern.single false (script_in pattern o)
  script_known None = tt
  script_known (Some other) = can.lawful.steps other

  pub kept_is : (p : ℕ) → kinds small p ≡ kept_kinds (pieces_of pattern coding cast r p)
  kept_is p =
      instance_kinds pattern coding fewer p
      ∙ ap (λ o. kinds_of (calls_from coding fewer p 0 (script_in pattern o))) (without_get r cast.roles p)
      ∙ sym (steps_kept false p 0 (script_in pattern (slice_get cast.roles (skip r p))) (script_known (slice_get cast.roles (skip r p))))

  pub all_is : (p : ℕ) → kinds large (skip r p) ≡ all_kinds to (pieces_of pattern coding cast r p)
  all_is p =
      instance_kinds pattern coding cast (skip r p) ∙ sym (steps_all false p 0 (script_in pattern (slice_get cast.roles (skip r p))) (script_known (slice_get cast.roles (skip r p))))

  -- what is left may be left
  left_word : (p : ℕ) (word : Word) → names_each word.indices ≡ true → (own : ℕ) → to.key own ≢ word_code coding cast (skip r p) r word
  left_word p word named own s = code_not coding r own word.base (map (who cast (skip r p) r) word.indices) (each_in cast (skip r p) r word.indices named) s

  r_plays_not : (other : ℕ) → (other ≡ role → ⊥) → is_member (group other cast.roles) r ≡ false
  r_plays_not other ne = group_member other cast.roles r ∙ ap (λ o. plays o other) can.is ∙ ne_eqb role other (λ s. ne (sym s))

  -- in a fence without the whole role, in the turn for r, nobody else of the role but the caller
  only_caller : (p : ℕ) (items : List Item) → KnowsItems pattern.single items → has_every role items ≡ false → (q : ℕ) → is_member (group role (without r cast.roles)) q ≡ true →
      is_member (members_in cast (skip r p) r items) (skip r q) ≡ true → q ≡ p
  only_caller p [] known none q i m = absurd (true≢false (sym m))
  only_caller p (Every other ∷ items) known none q i m =
      let parts = or_parts _ _ none in
      elim (or_cases _ _ (sym (list_any-append _ (group other cast.roles) _) ∙ m)) [
        | inr rest ↦ only_caller p items known.1 parts.1 q i rest
        | inl here ↦ absurd (not_both (slice_get cast.roles (skip r q)) (ap (λ o. plays o role) (sym (without_get r cast.roles q)) ∙ sym (group_member role (without r cast.roles) q) ∙ i)
            (sym (group_member other cast.roles (skip r q)) ∙ here) parts.0)
      ]
    where
      not_both : (o : Option ℕ) → plays o role ≡ true → plays o other ≡ true → (other == role) ≡ false → ⊥
      not_both None a b f = true≢false (sym a)
      not_both (Some x) a b f = true≢false (sym (eq-eqb other role (sym (eqb-true x other b) ∙ eqb-true x role a)) ∙ f)
  only_caller p (One (Only other) ∷ items) known none q i m = elim (or_cases _ _ m) [
    | inr rest ↦ only_caller p items known.1 none q i rest
    | inl here ↦ absurd (
        let s = single_stays pattern cast r role can other known.0 in
        let at : q ≡ s.0 = skip_one r q s.0 (sym (eqb-true _ _ here) ∙ ap (λ ys. get_or ys 0 0) s.2) in
        let plays_other : plays (slice_get (without r cast.roles) q) other ≡ true = sym (group_member other (without r cast.roles) q) ∙ ap (λ ys. is_member ys q) s.1 ∙ or_left _ _ (eq-eqb s.0 q (sym at)) in
        not_both (slice_get (without r cast.roles) q) (sym (group_member role (without r cast.roles) q) ∙ i) plays_other)
  ]
    where
      not_both : (o : Option ℕ) → plays o role ≡ true → plays o other ≡ true → ⊥
      not_both None a b = true≢false (sym a)
      not_both (Some x) a b = single_other pattern cast r role can other known.0 (sym (eqb-true x other b) ∙ eqb-true x role a)
  only_caller p (One Self ∷ items) known none q i m = elim (or_cases _ _ m) [ inr rest ↦ only_caller p items known.1 none q i rest | inl here ↦ skip_one r q p (sym (eqb-true _ _ here)) ]
  only_caller p (One Each ∷ items) known none q i m = elim (or_cases _ _ m) [
    | inr rest ↦ only_caller p items known.1 none q i rest
    | inl here ↦ absurd (skip_not r q (sym (eqb-true _ _ here)))
  ]

  left_set : (p other : ℕ) (items : List Item) → KnowsItems pattern.single items → is_member (group other cast.roles) r ≡ true → has_each items ≡ true → has_every other items ≡ false → (own : List ℕ) →
      to.members own ≢ set_of (members_in cast (skip r p) r items)
  left_set p other items known in_turn named none own s =
      let its : role ≡ other = eqb-true role other (sym (ap (λ o. plays o other) can.is) ∙ sym (group_member other cast.roles r) ∙ in_turn) in
      let none' : has_every role items ≡ false = ap (λ v. has_every v items) its ∙ none in
      let has : list_all (is_member own) (group role (without r cast.roles)) ≡ true =
      sym (again_member_r r (group role (without r cast.roles)) own) ∙ ap (λ ys. is_member ys r) s ∙ member_set (members_in cast (skip r p) r items) r ∙ each_member cast (skip r p) r items named in
      not_two (group role (without r cast.roles)) p p (rises_group role (without r cast.roles)) (three_left role r cast.roles can.four) (λ q i.
      inl (only_caller p items known none' q i
      (sym (member_set (members_in cast (skip r p) r items) (skip r q)) ∙ sym (ap (λ ys. is_member ys (skip r q)) s) ∙ again_member r (group role (without r cast.roles)) own q
      ∙ list_all_at_member _ (group role (without r cast.roles)) q has i)))

  left_line : (p other : ℕ) (waits : Bool) (line : Line) (rest : List Piece) → KnowsLine pattern.single line → IsLoopLine other line → is_member (group other cast.roles) r ≡ true →
      (has_commit (line ∷ []) ≡ true → waits ≡ false) → Fits to small waits rest → Fits to small waits (map Left (kinds_of (call_in coding cast (skip r p) r line ∷ [])) ++ rest)
  left_line p other waits (LinePut key scope) rest known l i c f = ((λ own u. left_word p key l own), f)
  left_line p other waits LineCommit rest known l i c f = (c refl, f)
  left_line p other waits (LineFence items collect) rest known l i c f = ((λ own u. left_set p other items known i l.0 l.1 own), (tt, f))
  left_line p other waits (LineGet owner key) rest known l i c f = (tt, f)
  left_line p other waits (LineGetNow owner key) rest known l i c f = (tt, f)
  left_line p other waits (LinePublish name) rest known l i c f = ((λ own u. left_word p name l own), f)
  left_line p other waits (LineLookup name) rest known l i c f = (tt, f)
  left_line p other waits (LineLookupWait name) rest known l i c f = (tt, f)
  left_line p other waits (LineUnpublish name) rest known l i c f = ((λ own u. left_word p name l own), f)
  left_line p other waits LineUnpublishAll rest known l i c f = absurd l
  left_line p other waits (LineFixed reply) rest known l i c f = (tt, f)

  commit_first : (line : Line) (lines : List Line) → has_commit (line ∷ []) ≡ true → has_commit (line ∷ lines) ≡ true
  commit_first LineCommit lines h = refl
  commit_first (LinePut key scope) lines h = absurd (true≢false (sym h))
  commit_first (LineFence items collect) lines h = absurd (true≢false (sym h))
  commit_first (LineGet owner key) lines h = absurd (true≢false (sym h))
  commit_first (LineGetNow owner key) lines h = absurd (true≢false (sym h))
  commit_first (LinePublish name) lines h = absurd (true≢false (sym h))
  commit_first (LineLookup name) lines h = absurd (true≢false (sym h))
  commit_first (LineLookupWait name) lines h = absurd (true≢false (sym h))
  commit_first (LineUnpublish name) lines h = absurd (true≢false (sym h))
  commit_first LineUnpublishAll lines h = absurd (true≢false (sym h))
  commit_first (LineFixed reply) lines h = absurd (true≢false (sym h))

  commit_later : (line : Line) (lines : List Line) → has_commit lines ≡ true → has_commit (line ∷ lines) ≡ true
  commit_later LineCommit lines h = refl
  commit_later (LinePut key scope) lines h = h
  commit_later (LineFence items collect) lines h = h
  commit_later (LineGet owner key) lines h = h
  commit_later (LineGetNow owner key) lines h = h
  commit_later (LinePublish name) lines h = h
  commit_later (LineLookup name) lines h = h
  commit_later (LineLookupWait name) lines h = h
  commit_later (LineUnpublish name) lines h = h
  commit_later LineUnpublishAll lines h = h
  commit_later (LineFixed reply) lines h = h

  left_lines : (p other : ℕ) (mode : Turns) (waits : Bool) (lines : List Line) → AreLoopLines pattern.single other mode lines → is_member (group other cast.roles) r ≡ true →
      (has_commit lines ≡ true → waits ≡ false) → Fits to small waits (leave_calls (map (call_in coding cast (skip r p) r) lines))
  left_lines p other mode waits [] known i c = tt
  left_lines p other mode waits (line ∷ lines) known i c =
      subst (Fits to small waits) (sym (one_line Left (call_in coding cast (skip r p) r line) (map (call_in coding cast (skip r p) r) lines)))
      (left_line p other waits line (leave_calls (map (call_in coding cast (skip r p) r) lines)) known.0.0 known.0.1.0 i (λ h. c (commit_first line lines h))
      (left_lines p other mode waits lines known.1 i (λ h. c (commit_later line lines h))))

  -- loops
  loop_fits : (p other : ℕ) (mode : Turns) (lines : List Line) → AreLoopLines pattern.single other mode lines → (es : List ℕ) → (is_member es r ≡ true → is_member (group other cast.roles) r ≡ true) →
      (waits : Bool) → (has_commit lines ≡ true → (waits ≡ false) × (waits_lines false lines ≡ false)) → Fits to small waits (loop_pieces coding cast r p lines es)
  loop_fits p other mode lines known [] inside waits c = tt
  loop_fits p other mode lines known (e ∷ es) inside waits c = elim (cases_eq e r) [
    | inl s ↦ subst (λ ps. Fits to small waits (ps ++ loop_pieces coding cast r p lines es)) (sym (cond-true (e == r) _ _ (eq-eqb e r s)))
        (fits_append to small waits (leave_calls (map (call_in coding cast (skip r p) e) lines)) (loop_pieces coding cast r p lines es)
        (subst (λ v. Fits to small waits (leave_calls (map (call_in coding cast (skip r p) v) lines))) (sym s)
        (left_lines p other mode waits lines known (inside (or_left _ _ (eq-eqb e r s))) (λ h. (c h).0)))
        (subst (λ w. Fits to small w (loop_pieces coding cast r p lines es)) (sym (left_after waits (kinds_of (map (call_in coding cast (skip r p) e) lines))))
        (loop_fits p other mode lines known es (λ i. inside (or_right _ _ i)) waits c)))
    | inr ne ↦ subst (λ ps. Fits to small waits (ps ++ loop_pieces coding cast r p lines es)) (sym (cond-false (e == r) _ _ (ne_eqb e r ne)))
        (fits_append to small waits (keep_calls (map (call_in coding fewer p (back r e)) lines)) (loop_pieces coding cast r p lines es)
        (kept_fits to small waits (kinds_of (map (call_in coding fewer p (back r e)) lines)))
        (subst (λ w. Fits to small w (loop_pieces coding cast r p lines es)) (sym (lines_after coding fewer p (back r e) waits lines))
        (loop_fits p other mode lines known es (λ i. inside (or_right _ _ i)) (waits_lines waits lines)
        (λ h. (ap (λ w. waits_lines w lines) (c h).0 ∙ (c h).1, (c h).1)))))
  ]

  loop_after : (p : ℕ) (lines : List Line) (es : List ℕ) (waits : Bool) → waits ≡ false → waits_lines false lines ≡ false → after waits (loop_pieces coding cast r p lines es) ≡ false
  unfolding after
  loop_after p lines [] waits w l = w
  loop_after p lines (e ∷ es) waits w l = elim (cases_eq e r) [
    | inl s ↦ ap (λ ps. after waits (ps ++ loop_pieces coding cast r p lines es)) (cond-true (e == r) _ _ (eq-eqb e r s))
        ∙ after_append waits (leave_calls (map (call_in coding cast (skip r p) e) lines)) (loop_pieces coding cast r p lines es)
        ∙ ap (λ v. after v (loop_pieces coding cast r p lines es)) (left_after waits (kinds_of (map (call_in coding cast (skip r p) e) lines)))
        ∙ loop_after p lines es waits w l
    | inr ne ↦ ap (λ ps. after waits (ps ++ loop_pieces coding cast r p lines es)) (cond-false (e == r) _ _ (ne_eqb e r ne))
        ∙ after_append waits (keep_calls (map (call_in coding fewer p (back r e)) lines)) (loop_pieces coding cast r p lines es)
        ∙ ap (λ v. after v (loop_pieces coding cast r p lines es)) (lines_after coding fewer p (back r e) waits lines)
        ∙ loop_after p lines es (waits_lines waits lines) (ap (λ v. waits_lines v lines) w ∙ l) l
  ]

  -- those for which a loop takes turns are of its role
  pub filter_member : (f : ℕ → Bool) (xs : List ℕ) (q : ℕ) → is_member (filter f xs) q ≡ true → is_member xs q ≡ true
  filter_member f [] q i = i
  filter_member f (x ∷ xs) q i = elim (cases_Bool (f x)) [
    | inl t ↦ elim (or_cases (x == q) (is_member (filter f xs) q) (ap (λ ys. is_member ys q) (sym (cond-true (f x) (x ∷ filter f xs) (filter f xs) t)) ∙ i)) [
      | inl here ↦ or_left (x == q) (is_member xs q) here
      | inr rest ↦ or_right (x == q) (is_member xs q) (filter_member f xs q rest)
    ]
    | inr n ↦ or_right (x == q) (is_member xs q) (filter_member f xs q (ap (λ ys. is_member ys q) (sym (cond-false (f x) (x ∷ filter f xs) (filter f xs) n)) ∙ i))
  ]

  pub turn_member : (v i other : ℕ) (mode : Turns) (q : ℕ) → is_member (turns cast v i other mode) q ≡ true → is_member (group other cast.roles) q ≡ true
  turn_member v i other InOrder q m = filter_member (λ e. not (e == v)) (group other cast.roles) q m
  turn_member v i other Round q m = elim (cases_Bool (is_member (group other cast.roles) v)) [
    | inl t ↦ (
        let behind = filter (λ e. nat_lt v e) (group other cast.roles) in
        let before = filter (λ e. nat_lt e v) (group other cast.roles) in
        elim (or_cases (is_member behind q) (is_member before q) (sym (list_any-append (λ x. x == q) behind before) ∙ ap (λ ys. is_member ys q) (sym (cond-true _ _ (filter (λ e. not (e == v)) (group other cast.roles)) t)) ∙ m)) [
          | inl a ↦ filter_member (λ e. nat_lt v e) (group other cast.roles) q a
          | inr b ↦ filter_member (λ e. nat_lt e v) (group other cast.roles) q b
        ])
    | inr f ↦ filter_member (λ e. not (e == v)) (group other cast.roles) q
        (ap (λ ys. is_member ys q) (sym (cond-false _ (filter (λ e. nat_lt v e) (group other cast.roles) ++ filter (λ e. nat_lt e v) (group other cast.roles)) _ f)) ∙ m)
  ]
  turn_member v i other Chosen q m = filter_member (λ e. not (e == v) && cast.chosen v i e) (group other cast.roles) q m

  line_waits : (line : Line) (said waits : Bool) → (said ≡ false → waits ≡ false) → waits_line said line ≡ false → waits_line waits line ≡ false
  line_waits (LinePut key scope) said waits up h = h
  line_waits LineCommit said waits up h = refl
  line_waits (LineFence items collect) said waits up h = up h
  line_waits (LineGet owner key) said waits up h = up h
  line_waits (LineGetNow owner key) said waits up h = up h
  line_waits (LinePublish name) said waits up h = up h
  line_waits (LineLookup name) said waits up h = up h
  line_waits (LineLookupWait name) said waits up h = up h
  line_waits (LineUnpublish name) said waits up h = up h
  line_waits LineUnpublishAll said waits up h = up h
  line_waits (LineFixed reply) said waits up h = up h

  -- steps: said is whether the script lets a put wait, waits whether a kept one does
  steps_fit : (p i : ℕ) (said waits : Bool) (steps : List Step) → (said ≡ false → waits ≡ false) → AreSteps pattern.single said steps → Fits to small waits (pieces_from coding cast r p i steps)
  steps_fit p i said waits [] up known = tt
  steps_fit p i said waits (Once line ∷ steps) up known =
      fits_append to small waits (keep_calls (call_in coding fewer p p line ∷ [])) (pieces_from coding cast r p (suc i) steps) (kept_fits to small waits (kinds_of (call_in coding fewer p p line ∷ [])))
      (steps_fit p (suc i) (waits_line said line) _ steps
      (λ h. lines_after coding fewer p p waits (line ∷ []) ∙ line_waits line said waits up h) known.1)
  steps_fit p i said waits (Loop other mode lines ∷ steps) up known =
      let es = turns cast (skip r p) i other mode in
      fits_append to small waits (loop_pieces coding cast r p lines es) (pieces_from coding cast r p (suc i) steps)
      (loop_fits p other mode lines known.0.0 es (turn_member (skip r p) i other mode r) waits (λ h. (up (known.0.1 h).0, (known.0.1 h).1)))
      (steps_fit p (suc i) (said || waits_lines said lines) _ steps
      (λ h. let parts = or_parts _ _ h in loop_after p lines es waits (up parts.0) (ap (λ w. waits_lines w lines) (sym parts.0) ∙ parts.1)) known.1)

  pub fits_are : (p : ℕ) → Fits to small false (pieces_of pattern coding cast r p)
  fits_are p = steps_fit p 0 false false (script_in pattern (slice_get cast.roles (skip r p))) (λ h. h) (script_known (slice_get cast.roles (skip r p)))

  one_set : (a b : List ℕ) → IsSetOf small a → IsSetOf small b → to.members a ≡ to.members b → a ≡ b
  one_set a b u v s = same_set a b (set_of_rises small a u) (set_of_rises small b v)
      (λ q. sym (again_member r (group role (without r cast.roles)) a q) ∙ ap (λ ms. is_member ms (skip r q)) s ∙ again_member r (group role (without r cast.roles)) b q)

  pub restricted_each : IsPartEach to small large (pieces_of pattern coding cast r)
  restricted_each = record {
    one_key = λ a b u v. code_one coding r a b;
    one_name = λ a b u v. code_one coding r a b;
    one_set = one_set;
    places = λ p n. refl;
    kept = kept_is;
    all = all_is;
    fits = fits_are;
  }
