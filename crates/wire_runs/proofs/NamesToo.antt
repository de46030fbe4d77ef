-- One rank fewer: where it writes a name, others of its role write the name too.
use Rattle.std.proofs.Common.{◌≡◌, ℕ, zero, suc, List, [], ◌∷◌, ◌++◌, map, Bool, true, false, not, ◌||◌, ◌==◌, nat_lt, Some, inl, inr, refl, sym, ap, ◌∙◌, subst, arith, eq-eqb, ne_eqb, eqb-true}
use Rattle.std.specs.Prelude.{slice_get, filter}
use Rattle.std.proofs.lemmas.Bool.{cond-true, cond-false, cases_lt, lt-ltb, cases_Bool, or_cases, or_left, or_right, or_from, or_parts, true≢false}
use Rattle.std.proofs.lemmas.List.Folds.{list_any-append}
use Rattle.std.proofs.lemmas.Option.{none-some, same_Some}
use Rattle.wire_runs.specs.Plan.{Kind, Publish, Unpublish, kinds_of}
use Rattle.wire_runs.specs.Fences.{is_member}
use Rattle.wire_runs.specs.Patterns.{Who, Only, Self, Each, Word, Line, LinePublish, LineUnpublish}
use Rattle.wire_runs.specs.Patterns.{Turns, InOrder, Round, Chosen, Step, Once, Loop, Pattern, Coding, Cast, group, who, word_code, call_in, turns, loop_calls, step_calls, calls_from}
use Rattle.wire_runs.specs.Patterns.{IsTurnLine, AreLoopLines, IsLawfulStep, waits_step, AreSteps}
use Rattle.wire_runs.specs.Restrictions.{CanGo}
use Rattle.wire_runs.proofs.RestrictedCalls.{kinds_append, same_code}
use Rattle.wire_runs.proofs.RestrictedEach.{turn_member}

-- whether a list of kinds has one that writes the name so: publishes it, or unpublishes it
abbrev pub Writer : Type 0
Writer = ℕ → Kind → Bool

abbrev pub publishing : Writer
publishing name (Publish n) = n == name
publishing name _ = false

abbrev pub unpublishing : Writer
unpublishing name (Unpublish n) = n == name
unpublishing name _ = false

abbrev pub has : (Kind → Bool) → List Kind → Bool
has test [] = false
has test (k ∷ ks) = test k || has test ks

pub has_append : (test : Kind → Bool) (xs ys : List Kind) → has test (xs ++ ys) ≡ (has test xs || has test ys)
has_append test [] ys = refl
has_append test (x ∷ xs) ys = ap (λ b. test x || b) (has_append test xs ys) ∙ or_assoc (test x) (has test xs) (has test ys)
  where
    or_assoc : (a b c : Bool) → (a || (b || c)) ≡ ((a || b) || c)
    or_assoc true b c = refl
    or_assoc false b c = refl

pub has_at : (test : Kind → Bool) (ks : List Kind) → has test ks ≡ true → (i : ℕ) × (k : Kind) × (slice_get ks i ≡ Some k) × (test k ≡ true)
has_at test [] h = absurd (true≢false (sym h))
has_at test (k ∷ ks) h = elim (or_cases (test k) (has test ks) h) [ inl t ↦ (0, k, refl, t) | inr r ↦ (let w = has_at test ks r in (suc w.0, w.1, w.2, w.3)) ]

pub at_has : (test : Kind → Bool) (ks : List Kind) (i : ℕ) (k : Kind) → slice_get ks i ≡ Some k → test k ≡ true → has test ks ≡ true
at_has test [] i k is t = absurd (none-some k is)
at_has test (l ∷ ks) zero k is t = or_left (test l) (has test ks) (ap test (same_Some _ _ is) ∙ t)
at_has test (l ∷ ks) (suc i) k is t = or_right (test l) (has test ks) (at_has test ks i k is t)

module _ (pattern : Pattern) (coding : Coding) (cast : Cast) (r role : ℕ) (can : CanGo pattern cast r role) (name : ℕ) (indices : List ℕ) (base : ℕ) (code_is : name ≡ coding.code base indices) (no_r : is_member indices r ≡ false) where
  -- indices without r name neither the caller r nor, in the turn for r, that
  same_word : (u e : ℕ) (word : Word) → word_code coding cast r e word ≡ name → word_code coding cast u e word ≡ name
  same_word u e word is =
      let d = same_code coding word.base base (map (who cast r e) word.indices) indices (is ∙ code_is) in
      ap (coding.code word.base) (others word.indices (ap (λ ys. is_member ys r) d.1 ∙ no_r)) ∙ is
    where
      others : (ws : List Who) → is_member (map (who cast r e) ws) r ≡ false → map (who cast u e) ws ≡ map (who cast r e) ws
      others [] f = refl
      others (Only other ∷ ws) f = ap (λ vs. who cast r e (Only other) ∷ vs) (others ws (or_parts _ _ f).1)
      others (Each ∷ ws) f = ap (λ vs. e ∷ vs) (others ws (or_parts _ _ f).1)
      others (Self ∷ ws) f = absurd (true≢false (sym (eq-eqb r r refl) ∙ (or_parts _ _ f).0))

  -- outside loops the turn is for the caller itself
  same_word_once : (u : ℕ) (word : Word) → word_code coding cast r r word ≡ name → word_code coding cast u u word ≡ name
  same_word_once u word is =
      let d = same_code coding word.base base (map (who cast r r) word.indices) indices (is ∙ code_is) in
      ap (coding.code word.base) (others word.indices (ap (λ ys. is_member ys r) d.1 ∙ no_r)) ∙ is
    where
      others : (ws : List Who) → is_member (map (who cast r r) ws) r ≡ false → map (who cast u u) ws ≡ map (who cast r r) ws
      others [] f = refl
      others (Only other ∷ ws) f = ap (λ vs. who cast r r (Only other) ∷ vs) (others ws (or_parts _ _ f).1)
      others (Each ∷ ws) f = absurd (true≢false (sym (eq-eqb r r refl) ∙ (or_parts _ _ f).0))
      others (Self ∷ ws) f = absurd (true≢false (sym (eq-eqb r r refl) ∙ (or_parts _ _ f).0))

  -- a test that is passed only by calls on this name, of lines that optional loops don't have
  pub record IsTest (test : Kind → Bool) : Type 0 where
    pub once_too : (u : ℕ) (line : Line) → has test (kinds_of (call_in coding cast r r line ∷ [])) ≡ true → has test (kinds_of (call_in coding cast u u line ∷ [])) ≡ true
    pub turn_too : (u e : ℕ) (line : Line) → has test (kinds_of (call_in coding cast r e line ∷ [])) ≡ true → has test (kinds_of (call_in coding cast u e line ∷ [])) ≡ true
    pub not_optional : (v e : ℕ) (line : Line) → IsTurnLine Chosen line → has test (kinds_of (call_in coding cast v e line ∷ [])) ≡ false

  pub publish_test : IsTest (publishing name)
  publish_test = record { once_too = once_too; turn_too = turn_too; not_optional = not_optional }
    where
      once_too : (u : ℕ) (line : Line) → has (publishing name) (kinds_of (call_in coding cast r r line ∷ [])) ≡ true → has (publishing name) (kinds_of (call_in coding cast u u line ∷ [])) ≡ true
      once_too u (LinePublish word) h = elim (or_cases (word_code coding cast r r word == name) false h) [
        | inl t ↦ or_left _ false (eq-eqb _ _ (same_word_once u word (eqb-true _ _ t)))
        | inr f ↦ absurd (true≢false (sym f))
      ]
      once_too u _ h = absurd (true≢false (sym h))

      turn_too : (u e : ℕ) (line : Line) → has (publishing name) (kinds_of (call_in coding cast r e line ∷ [])) ≡ true → has (publishing name) (kinds_of (call_in coding cast u e line ∷ [])) ≡ true
      turn_too u e (LinePublish word) h = elim (or_cases (word_code coding cast r e word == name) false h) [
        | inl t ↦ or_left _ false (eq-eqb _ _ (same_word u e word (eqb-true _ _ t)))
        | inr f ↦ absurd (true≢false (sym f))
      ]
      turn_too u e _ h = absurd (true≢false (sym h))

      not_optional : (v e : ℕ) (line : Line) → IsTurnLine Chosen line → has (publishing name) (kinds_of (call_in coding cast v e line ∷ [])) ≡ false
      not_optional v e (LinePublish word) l = absurd l
      not_optional v e _ l = refl

  pub unpublish_test : IsTest (unpublishing name)
  unpublish_test = record { once_too = once_too; turn_too = turn_too; not_optional = not_optional }
    where
      once_too : (u : ℕ) (line : Line) → has (unpublishing name) (kinds_of (call_in coding cast r r line ∷ [])) ≡ true → has (unpublishing name) (kinds_of (call_in coding cast u u line ∷ [])) ≡ true
      once_too u (LineUnpublish word) h = elim (or_cases (word_code coding cast r r word == name) false h) [
        | inl t ↦ or_left _ false (eq-eqb _ _ (same_word_once u word (eqb-true _ _ t)))
        | inr f ↦ absurd (true≢false (sym f))
      ]
      once_too u _ h = absurd (true≢false (sym h))

      turn_too : (u e : ℕ) (line : Line) → has (unpublishing name) (kinds_of (call_in coding cast r e line ∷ [])) ≡ true → has (unpublishing name) (kinds_of (call_in coding cast u e line ∷ [])) ≡ true
      turn_too u e (LineUnpublish word) h = elim (or_cases (word_code coding cast r e word == name) false h) [
        | inl t ↦ or_left _ false (eq-eqb _ _ (same_word u e word (eqb-true _ _ t)))
        | inr f ↦ absurd (true≢false (sym f))
      ]
      turn_too u e _ h = absurd (true≢false (sym h))

      not_optional : (v e : ℕ) (line : Line) → IsTurnLine Chosen line → has (unpublishing name) (kinds_of (call_in coding cast v e line ∷ [])) ≡ false
      not_optional v e (LineUnpublish word) l = absurd l
      not_optional v e _ l = refl

  module _ (test : Kind → Bool) (t : IsTest test) where
    has_lines : (v e : ℕ) (line : Line) (lines : List Line) →
        has test (kinds_of (map (call_in coding cast v e) (line ∷ lines))) ≡ (has test (kinds_of (call_in coding cast v e line ∷ [])) || has test (kinds_of (map (call_in coding cast v e) lines)))
    has_lines v e line lines =
        ap (has test) (kinds_append (call_in coding cast v e line ∷ []) (map (call_in coding cast v e) lines)) ∙ has_append test (kinds_of (call_in coding cast v e line ∷ [])) (kinds_of (map (call_in coding cast v e) lines))

    lines_too : (u e : ℕ) (lines : List Line) → has test (kinds_of (map (call_in coding cast r e) lines)) ≡ true → has test (kinds_of (map (call_in coding cast u e) lines)) ≡ true
    lines_too u e [] h = absurd (true≢false (sym h))
    lines_too u e (line ∷ lines) h = elim (or_cases _ _ (sym (has_lines r e line lines) ∙ h)) [
      | inl a ↦ has_lines u e line lines ∙ or_left _ _ (t.turn_too u e line a)
      | inr b ↦ has_lines u e line lines ∙ or_right _ _ (lines_too u e lines b)
    ]

    none_optional : (v e other : ℕ) (lines : List Line) → AreLoopLines pattern.single other Chosen lines → has test (kinds_of (map (call_in coding cast v e) lines)) ≡ false
    none_optional v e other [] known = refl
    none_optional v e other (line ∷ lines) known = has_lines v e line lines ∙ or_from _ _ (t.not_optional v e line known.0.1.1) (none_optional v e other lines known.1)

    has_turns : (v e : ℕ) (es : List ℕ) (lines : List Line) →
        has test (kinds_of (loop_calls coding cast v lines (e ∷ es))) ≡ (has test (kinds_of (map (call_in coding cast v e) lines)) || has test (kinds_of (loop_calls coding cast v lines es)))
    has_turns v e es lines =
        ap (has test) (kinds_append (map (call_in coding cast v e) lines) (loop_calls coding cast v lines es)) ∙ has_append test (kinds_of (map (call_in coding cast v e) lines)) (kinds_of (loop_calls coding cast v lines es))

    -- the turn that passes
    turn_of : (v : ℕ) (es : List ℕ) (lines : List Line) → has test (kinds_of (loop_calls coding cast v lines es)) ≡ true →
        (e : ℕ) × (is_member es e ≡ true) × (has test (kinds_of (map (call_in coding cast v e) lines)) ≡ true)
    turn_of v [] lines h = absurd (true≢false (sym h))
    turn_of v (e ∷ es) lines h = elim (or_cases _ _ (sym (has_turns v e es lines) ∙ h)) [
      | inl a ↦ (e, or_left (e == e) (is_member es e) (eq-eqb e e refl), a)
      | inr b ↦ (let w = turn_of v es lines b in (w.0, or_right (e == w.0) (is_member es w.0) w.1, w.2))
    ]

    turn_in : (v e : ℕ) (es : List ℕ) (lines : List Line) → is_member es e ≡ true → has test (kinds_of (map (call_in coding cast v e) lines)) ≡ true →
        has test (kinds_of (loop_calls coding cast v lines es)) ≡ true
    turn_in v e [] lines m h = absurd (true≢false (sym m))
    turn_in v e (x ∷ es) lines m h = has_turns v x es lines ∙ elim (or_cases (x == e) (is_member es e) m) [
      | inl s ↦ or_left _ _ (ap (λ w. has test (kinds_of (map (call_in coding cast v w) lines))) (eqb-true x e s) ∙ h)
      | inr rest ↦ or_right _ _ (turn_in v e es lines rest h)
    ]

    filter_in : (f : ℕ → Bool) (xs : List ℕ) (q : ℕ) → is_member xs q ≡ true → f q ≡ true → is_member (filter f xs) q ≡ true
    filter_in f [] q i h = absurd (true≢false (sym i))
    filter_in f (x ∷ xs) q i h = elim (or_cases (x == q) (is_member xs q) i) [
      | inl s ↦ ap (λ ys. is_member ys q) (cond-true (f x) (x ∷ filter f xs) (filter f xs) (ap f (eqb-true x q s) ∙ h)) ∙ or_left (x == q) (is_member (filter f xs) q) s
      | inr rest ↦ elim (cases_Bool (f x)) [
        | inl y ↦ ap (λ ys. is_member ys q) (cond-true (f x) (x ∷ filter f xs) (filter f xs) y) ∙ or_right (x == q) (is_member (filter f xs) q) (filter_in f xs q rest h)
        | inr n ↦ ap (λ ys. is_member ys q) (cond-false (f x) (x ∷ filter f xs) (filter f xs) n) ∙ filter_in f xs q rest h
      ]
    ]

    -- another caller takes a turn for it too
    turn_there : (u i other : ℕ) (mode : Turns) (e : ℕ) → (mode ≡ Chosen → ⊥) → is_member (group other cast.roles) e ≡ true → (e ≡ u → ⊥) → is_member (turns cast u i other mode) e ≡ true
    turn_there u i other InOrder e free m ne = filter_in (λ x. not (x == u)) (group other cast.roles) e m (ap not (ne_eqb e u ne))
    turn_there u i other Round e free m ne = elim (cases_Bool (is_member (group other cast.roles) u)) [
      | inl y ↦ ap (λ ys. is_member ys e) (cond-true _ _ (filter (λ x. not (x == u)) (group other cast.roles)) y)
          ∙ list_any-append (λ x. x == e) (filter (λ x. nat_lt u x) (group other cast.roles)) (filter (λ x. nat_lt x u) (group other cast.roles))
          ∙ elim (cases_lt u e) [
            | inl lt ↦ or_left _ _ (filter_in (λ x. nat_lt u x) (group other cast.roles) e m (lt-ltb u e lt))
            | inr ge ↦ or_right _ _ (filter_in (λ x. nat_lt x u) (group other cast.roles) e m (lt-ltb e u (omega (arith, ge, ne))))
          ]
      | inr n ↦ ap (λ ys. is_member ys e) (cond-false _ (filter (λ x. nat_lt u x) (group other cast.roles) ++ filter (λ x. nat_lt x u) (group other cast.roles)) _ n)
          ∙ filter_in (λ x. not (x == u)) (group other cast.roles) e m (ap not (ne_eqb e u ne))
    ]
    turn_there u i other Chosen e free m ne = absurd (free refl)

    -- where r passes, so does each but one
    abbrev AllButOne : ℕ → List Step → Type 0
    AllButOne i steps = (bad : ℕ) × ((u : ℕ) → (u ≡ bad → ⊥) → has test (kinds_of (calls_from coding cast u i steps)) ≡ true)

    has_steps : (v i : ℕ) (step : Step) (steps : List Step) →
        has test (kinds_of (calls_from coding cast v i (step ∷ steps))) ≡ (has test (kinds_of (step_calls coding cast v i step)) || has test (kinds_of (calls_from coding cast v (suc i) steps)))
    has_steps v i step steps =
        ap (has test) (kinds_append (step_calls coding cast v i step) (calls_from coding cast v (suc i) steps))
        ∙ has_append test (kinds_of (step_calls coding cast v i step)) (kinds_of (calls_from coding cast v (suc i) steps))

    step_too : (i : ℕ) (waits : Bool) (step : Step) → IsLawfulStep pattern.single waits step → has test (kinds_of (step_calls coding cast r i step)) ≡ true →
        (bad : ℕ) × ((u : ℕ) → (u ≡ bad → ⊥) → has test (kinds_of (step_calls coding cast u i step)) ≡ true)
    step_too i waits (Once line) known h = (r, λ u ne. t.once_too u line h)
    step_too i waits (Loop other mode lines) known h =
        let w = turn_of r (turns cast r i other mode) lines h in
        let free : mode ≡ Chosen → ⊥ = λ s. true≢false (sym w.2 ∙ none_optional r w.0 other lines (subst (λ m. AreLoopLines pattern.single other m lines) s known.0)) in (
          w.0,
          λ u ne. turn_in u w.0 (turns cast u i other mode) lines
              (turn_there u i other mode w.0 free (turn_member pattern coding cast r role can r i other mode w.0 w.1) (λ s. ne (sym s))) (lines_too u w.0 lines w.2),
        )

    pub steps_too : (i : ℕ) (waits : Bool) (steps : List Step) → AreSteps pattern.single waits steps → has test (kinds_of (calls_from coding cast r i steps)) ≡ true → AllButOne i steps
    steps_too i waits [] known h = absurd (true≢false (sym h))
    steps_too i waits (step ∷ steps) known h = elim (or_cases _ _ (sym (has_steps r i step steps) ∙ h)) [
      | inl a ↦ (let w = step_too i waits step known.0 a in (w.0, λ u ne. has_steps u i step steps ∙ or_left _ _ (w.1 u ne)))
      | inr b ↦ (let w = steps_too (suc i) (waits_step waits step) steps known.1 b in (w.0, λ u ne. has_steps u i step steps ∙ or_right _ _ (w.1 u ne)))
    ]
