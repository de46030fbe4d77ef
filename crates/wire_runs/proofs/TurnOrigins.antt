-- Which line an event is of, and in which turn.
use Rattle.std.proofs.Common.{◌≡◌, ℕ, zero, suc, List, [], ◌∷◌, ◌++◌, map, Bool, true, false, ◌==◌, ◌⊎◌, Some, inl, inr, refl, sym, ap, ◌∙◌, subst, eq-eqb}
use Rattle.std.specs.Prelude.{slice_get}
use Rattle.std.proofs.lemmas.Bool.{or_left, or_right}
use Rattle.std.proofs.lemmas.Option.{none-some, same_Some}
use Rattle.wire_runs.specs.Plan.{Kind, Arrive, Get, kinds_of, kind_at, set_of}
use Rattle.wire_runs.specs.Fences.{is_member}
use Rattle.wire_runs.specs.Patterns.{Who, Item, Word, Line, LinePut, LineCommit, LineFence, LineGet, LineGetNow, LinePublish, LineLookup, LineLookupWait, LineUnpublish, LineUnpublishAll, LineFixed}
use Rattle.wire_runs.specs.Patterns.{Turns, Step, Once, Loop, Pattern, Coding, Cast, group, who, members_in, word_code, call_in, turns, loop_calls, step_calls, calls_from, instance_of}
use Rattle.wire_runs.specs.Patterns.{IsLoopLine, AreLoopLines, KnowsLine, IsLawfulStep, waits_step, AreSteps}
use Rattle.wire_runs.specs.Restrictions.{script_in, CanGo}
use Rattle.wire_runs.proofs.RestrictedCalls.{instance_kinds, kinds_append}
use Rattle.wire_runs.proofs.RestrictedEach.{script_known, turn_member}
use Rattle.wire_runs.proofs.TurnMarks.{marked, loop_marks, step_marks, marks_from, marks_of}

abbrev pub IsAmong : Kind → List Kind → Type 0
IsAmong k [] = ⊥
IsAmong k (x ∷ xs) = (x ≡ k) ⊎ IsAmong k xs

among_or : (k : Kind) (xs ys : List Kind) → IsAmong k (xs ++ ys) → IsAmong k xs ⊎ IsAmong k ys
among_or k [] ys h = inr h
among_or k (x ∷ xs) ys h = elim h [
  | inl s ↦ inl (inl s)
  | inr rest ↦ elim (among_or k xs ys rest) [ inl a ↦ inl (inr a) | inr b ↦ inr b ]
]

-- a line of v's script makes an event of this kind: outside loops, where the turn is the caller's own, or in a loop's turn for e
pub data Origin (pattern : Pattern) (coding : Coding) (cast : Cast) (v e : ℕ) (k : Kind) : Type 0 where
  InScript : (line : Line) → KnowsLine pattern.single line → e ≡ v → IsAmong k (kinds_of (call_in coding cast v v line ∷ [])) → Origin pattern coding cast v e k
  InLoop : (other : ℕ) (line : Line) → KnowsLine pattern.single line → IsLoopLine other line → is_member (group other cast.roles) e ≡ true
      → IsAmong k (kinds_of (call_in coding cast v e line ∷ [])) → Origin pattern coding cast v e k

module _ (pattern : Pattern) (coding : Coding) (cast : Cast) (r role : ℕ) (can : CanGo pattern cast r role) (v : ℕ) where
  abbrev AreTold : List ℕ → List Kind → Type 0
  AreTold [] [] = Unit {0}
  AreTold [] (k ∷ ks) = ⊥
  AreTold (e ∷ es) [] = ⊥
  AreTold (e ∷ es) (k ∷ ks) = Origin pattern coding cast v e k × AreTold es ks

  told_both : (ms ns : List ℕ) (ks ls : List Kind) → AreTold ms ks → AreTold ns ls → AreTold (ms ++ ns) (ks ++ ls)
  told_both [] ns [] ls a b = b
  told_both [] ns (k ∷ ks) ls a b = absurd a
  told_both (m ∷ ms) ns [] ls a b = absurd a
  told_both (m ∷ ms) ns (k ∷ ks) ls a b = (a.0, told_both ms ns ks ls a.1 b)

  told_at : (ms : List ℕ) (ks : List Kind) → AreTold ms ks → (i e : ℕ) (k : Kind) → slice_get ms i ≡ Some e → slice_get ks i ≡ Some k → Origin pattern coding cast v e k
  told_at [] ks a i e k em ek = absurd (none-some e em)
  told_at (m ∷ ms) [] a i e k em ek = absurd (none-some k ek)
  told_at (m ∷ ms) (l ∷ ks) a zero e k em ek =
      subst (λ j. Origin pattern coding cast v j k) (same_Some _ _ em) (subst (λ o. Origin pattern coding cast v m o) (same_Some _ _ ek) a.0)
  told_at (m ∷ ms) (l ∷ ks) a (suc i) e k em ek = told_at ms ks a.1 i e k em ek

  told_marked : (e : ℕ) (ks : List Kind) → ((k : Kind) → IsAmong k ks → Origin pattern coding cast v e k) → AreTold (marked e ks) ks
  told_marked e [] f = tt
  told_marked e (k ∷ ks) f = (f k (inl refl), told_marked e ks (λ l h. f l (inr h)))

  line_behind : (e other : ℕ) (mode : Turns) (lines : List Line) → AreLoopLines pattern.single other mode lines → is_member (group other cast.roles) e ≡ true → (k : Kind) →
      IsAmong k (kinds_of (map (call_in coding cast v e) lines)) → Origin pattern coding cast v e k
  line_behind e other mode [] known i k h = absurd h
  line_behind e other mode (line ∷ lines) known i k h =
      elim (among_or k (kinds_of (call_in coding cast v e line ∷ [])) (kinds_of (map (call_in coding cast v e) lines))
      (subst (IsAmong k) (kinds_append (call_in coding cast v e line ∷ []) (map (call_in coding cast v e) lines)) h)) [
        | inl a ↦ InLoop other line known.0.0 known.0.1.0 i a
        | inr b ↦ line_behind e other mode lines known.1 i k b
      ]

  loop_told : (other : ℕ) (mode : Turns) (lines : List Line) → AreLoopLines pattern.single other mode lines → (es : List ℕ) →
      ((q : ℕ) → is_member es q ≡ true → is_member (group other cast.roles) q ≡ true) → AreTold (loop_marks coding cast v lines es) (kinds_of (loop_calls coding cast v lines es))
  loop_told other mode lines known [] inside = tt
  loop_told other mode lines known (e ∷ es) inside =
      let ks = kinds_of (map (call_in coding cast v e) lines) in
      subst (AreTold (marked e ks ++ loop_marks coding cast v lines es)) (sym (kinds_append (map (call_in coding cast v e) lines) (loop_calls coding cast v lines es)))
      (told_both (marked e ks) (loop_marks coding cast v lines es) ks (kinds_of (loop_calls coding cast v lines es))
      (told_marked e ks (line_behind e other mode lines known (inside e (or_left (e == e) (is_member es e) (eq-eqb e e refl)))))
      (loop_told other mode lines known es (λ q m. inside q (or_right (e == q) (is_member es q) m))))

  step_told : (i : ℕ) (waits : Bool) (step : Step) → IsLawfulStep pattern.single waits step → AreTold (step_marks coding cast v i step) (kinds_of (step_calls coding cast v i step))
  step_told i waits (Once line) known = told_marked v (kinds_of (call_in coding cast v v line ∷ [])) (λ k h. InScript line known refl h)
  step_told i waits (Loop other mode lines) known = loop_told other mode lines known.0 (turns cast v i other mode) (turn_member pattern coding cast r role can v i other mode)

  steps_told : (i : ℕ) (waits : Bool) (steps : List Step) → AreSteps pattern.single waits steps → AreTold (marks_from coding cast v i steps) (kinds_of (calls_from coding cast v i steps))
  steps_told i waits [] known = tt
  steps_told i waits (step ∷ steps) known =
      subst (AreTold (step_marks coding cast v i step ++ marks_from coding cast v (suc i) steps)) (sym (kinds_append (step_calls coding cast v i step) (calls_from coding cast v (suc i) steps)))
      (told_both (step_marks coding cast v i step) (marks_from coding cast v (suc i) steps) (kinds_of (step_calls coding cast v i step)) (kinds_of (calls_from coding cast v (suc i) steps))
      (step_told i waits step known.0) (steps_told (suc i) (waits_step waits step) steps known.1))

  -- the line behind an event with this mark
  pub origin_of : (i e : ℕ) (k : Kind) → kind_at (instance_of pattern coding cast) v i ≡ Some k → slice_get (marks_of pattern coding cast v) i ≡ Some e → Origin pattern coding cast v e k
  unfolding kind_at
  origin_of i e k is mark =
      told_at (marks_of pattern coding cast v) (kinds_of (calls_from coding cast v 0 (script_in pattern (slice_get cast.roles v))))
      (steps_told 0 false (script_in pattern (slice_get cast.roles v)) (script_known pattern coding cast r role can (slice_get cast.roles v))) i e k mark
      (ap (λ ks. slice_get ks i) (sym (instance_kinds pattern coding cast v)) ∙ is)

-- the line of a fence
module _ (coding : Coding) (cast : Cast) (v e : ℕ) where
  abbrev members_said : List ℕ → Kind → List ℕ
  members_said ms (Arrive members collect) = members
  members_said ms _ = ms

  pub fence_line : (line : Line) (members : List ℕ) (collect : Bool) → IsAmong (Arrive members collect) (kinds_of (call_in coding cast v e line ∷ [])) →
      (items : List Item) × (says : Bool) × (line ≡ LineFence items says) × (set_of (members_in cast v e items) ≡ members)
  fence_line (LineFence items says) members collect h = elim h [
    | inl s ↦ (items, says, refl, ap (members_said members) s)
    | inr rest ↦ elim rest [ inl s ↦ absurd cc | inr none ↦ absurd none ]
  ]
  fence_line (LinePut key scope) members collect h = elim h [ inl s ↦ absurd cc | inr none ↦ absurd none ]
  fence_line LineCommit members collect h = elim h [ inl s ↦ absurd cc | inr none ↦ absurd none ]
  fence_line (LineGet owner key) members collect h = elim h [ inl s ↦ absurd cc | inr none ↦ absurd none ]
  fence_line (LineGetNow owner key) members collect h = elim h [ inl s ↦ absurd cc | inr none ↦ absurd none ]
  fence_line (LinePublish name) members collect h = elim h [ inl s ↦ absurd cc | inr none ↦ absurd none ]
  fence_line (LineLookup name) members collect h = elim h [ inl s ↦ absurd cc | inr none ↦ absurd none ]
  fence_line (LineLookupWait name) members collect h = elim h [ inl s ↦ absurd cc | inr none ↦ absurd none ]
  fence_line (LineUnpublish name) members collect h = elim h [ inl s ↦ absurd cc | inr none ↦ absurd none ]
  fence_line LineUnpublishAll members collect h = elim h [ inl s ↦ absurd cc | inr none ↦ absurd none ]
  fence_line (LineFixed reply) members collect h = elim h [ inl s ↦ absurd cc | inr none ↦ absurd none ]

  abbrev owner_said : ℕ → Kind → ℕ
  owner_said n (Get owner key) = owner
  owner_said n _ = n

  abbrev key_said : ℕ → Kind → ℕ
  key_said n (Get owner key) = key
  key_said n _ = n

  -- the line of a get
  pub get_line : (line : Line) (owner key : ℕ) → IsAmong (Get owner key) (kinds_of (call_in coding cast v e line ∷ [])) →
      (whose : Who) × (word : Word) × (line ≡ LineGet whose word) × (who cast v e whose ≡ owner) × (word_code coding cast v e word ≡ key)
  get_line (LineGet whose word) owner key h = elim h [
    | inl s ↦ (whose, word, refl, ap (owner_said owner) s, ap (key_said key) s)
    | inr none ↦ absurd none
  ]
  get_line (LineFence items says) owner key h = elim h [
    | inl s ↦ absurd cc
    | inr rest ↦ elim rest [ inl s ↦ absurd cc | inr none ↦ absurd none ]
  ]
  get_line (LinePut key' scope) owner key h = elim h [ inl s ↦ absurd cc | inr none ↦ absurd none ]
  get_line LineCommit owner key h = elim h [ inl s ↦ absurd cc | inr none ↦ absurd none ]
  get_line (LineGetNow owner' key') owner key h = elim h [ inl s ↦ absurd cc | inr none ↦ absurd none ]
  get_line (LinePublish name) owner key h = elim h [ inl s ↦ absurd cc | inr none ↦ absurd none ]
  get_line (LineLookup name) owner key h = elim h [ inl s ↦ absurd cc | inr none ↦ absurd none ]
  get_line (LineLookupWait name) owner key h = elim h [ inl s ↦ absurd cc | inr none ↦ absurd none ]
  get_line (LineUnpublish name) owner key h = elim h [ inl s ↦ absurd cc | inr none ↦ absurd none ]
  get_line LineUnpublishAll owner key h = elim h [ inl s ↦ absurd cc | inr none ↦ absurd none ]
  get_line (LineFixed reply) owner key h = elim h [ inl s ↦ absurd cc | inr none ↦ absurd none ]
