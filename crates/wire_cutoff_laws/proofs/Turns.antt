-- Turns that may be left out: which there are, and what is taken of them.
use Rattle.std.proofs.Common.{◌≡◌, ◌≢◌, ℕ, zero, suc, ◌+◌, List, [], ◌∷◌, ◌++◌, map, Bool, true, false, not, ◌&&◌, ◌==◌, Some, inl, inr, ◌⊎◌, refl, sym, ap, ◌∙◌, subst, arith, eqb, eq-eqb, ne_eqb}
use Rattle.std.specs.Prelude.{slice_get, if◌then◌else◌}
use Rattle.std.proofs.lemmas.Bool.{cond-true, cond-false, cases_Bool, and_from, and_parts, eqb-true, true≢false}
use Rattle.std.proofs.lemmas.Option.{none-some, same_Some}
use Rattle.wire_runs.specs.Patterns.{Chosen}
use Rattle.wire_pattern.specs.Pattern.{Line, Step, Loop, Pattern}
use Rattle.wire_pattern.specs.Planned.{steps_in}
use Rattle.wire_pattern.specs.Instances.{Turn, is_turn, is_taken}
use Rattle.wire_cutoff_laws.specs.Choices.{are_reads, turns_for, step_turns, steps_turns, callers_turns, chosen_by}

-- it is one of these
abbrev pub Among : List Turn → Turn → Type 0
Among [] t = ⊥
Among (u ∷ us) t = (u ≡ t) ⊎ Among us t

among_left : (us vs : List Turn) (t : Turn) → Among us t → Among (us ++ vs) t
among_left [] vs t a = absurd a
among_left (u ∷ us) vs t (inl e) = inl e
among_left (u ∷ us) vs t (inr a) = inr (among_left us vs t a)

among_right : (us vs : List Turn) (t : Turn) → Among vs t → Among (us ++ vs) t
among_right [] vs t a = a
among_right (u ∷ us) vs t a = inr (among_right us vs t a)

same_turn : (u t : Turn) → is_turn u t ≡ true → u ≡ t
same_turn u t y = λ i. record { caller = a i; step = b i; each = c i }
  where
    parts : (eqb u.caller t.caller ≡ true) × ((eqb u.step t.step && eqb u.each t.each) ≡ true)
    parts = and_parts (eqb u.caller t.caller) (eqb u.step t.step && eqb u.each t.each) y

    a : u.caller ≡ t.caller
    a = eqb-true u.caller t.caller parts.0

    b : u.step ≡ t.step
    b = eqb-true u.step t.step (and_parts (eqb u.step t.step) (eqb u.each t.each) parts.1).0

    c : u.each ≡ t.each
    c = eqb-true u.each t.each (and_parts (eqb u.step t.step) (eqb u.each t.each) parts.1).1

turn_is : (t : Turn) → is_turn t t ≡ true
turn_is t = and_from _ _ (eq-eqb t.caller t.caller refl) (and_from _ _ (eq-eqb t.step t.step refl) (eq-eqb t.each t.each refl))

-- a turn that is listed is taken as it is said to be, any other is taken
pub taken_or : (us : List Turn) (f : Turn → Bool) (t : Turn)
    → (is_taken (chosen_by us (map f us)) t ≡ f t) ⊎ ((Among us t → ⊥) × (is_taken (chosen_by us (map f us)) t ≡ true))
taken_or [] f t = inr ((λ a. a), refl)
taken_or (u ∷ us) f t = elim (cases_Bool (is_turn u t)) [
  | inl y ↦ inl (cond-true (is_turn u t) (f u) (is_taken (chosen_by us (map f us)) t) y ∙ ap f (same_turn u t y))
  | inr n ↦ later n (taken_or us f t)
]
  where
    later : is_turn u t ≡ false → (is_taken (chosen_by us (map f us)) t ≡ f t) ⊎ ((Among us t → ⊥) × (is_taken (chosen_by us (map f us)) t ≡ true))
        → (is_taken (chosen_by (u ∷ us) (map f (u ∷ us))) t ≡ f t) ⊎ ((Among (u ∷ us) t → ⊥) × (is_taken (chosen_by (u ∷ us) (map f (u ∷ us))) t ≡ true))
    later n (inl e) = inl (cond-false (is_turn u t) (f u) (is_taken (chosen_by us (map f us)) t) n ∙ e)
    later n (inr e) = inr ((λ a. elim a [ inl s ↦ true≢false (sym (turn_is t) ∙ ap (λ w. is_turn w t) (sym s) ∙ n) | inr b ↦ e.0 b ]), cond-false (is_turn u t) (f u) (is_taken (chosen_by us (map f us)) t) n ∙ e.1)

abbrev pub turn : ℕ → ℕ → ℕ → Turn
turn v i e = record { caller = v; step = i; each = e }

further : (k n : ℕ) → k + 1 + n ≡ k + suc n
further k n = omega arith

further_on : (b : Bool) (u : Turn) (us : List Turn) (t : Turn) → Among us t → Among (if b then u ∷ us else us) t
further_on true u us t a = inr a
further_on false u us t a = a

-- the turn for another process of the role
for_process : (v i role k n : ℕ) (roles : List ℕ) → slice_get roles n ≡ Some role → (k + n ≢ v) → Among (turns_for v i role k roles) (turn v i (k + n))
for_process v i role k n [] is ne = absurd (none-some role is)
for_process v i role k zero (r ∷ roles) is ne = subst (λ us. Among us (turn v i (k + 0))) (sym chosen) (inl (ap (turn v i) here))
  where
    here : k ≡ k + 0
    here = omega arith

    taken : (r == role && not (k == v)) ≡ true
    taken = and_from _ _ (eq-eqb r role (same_Some _ _ is)) (ap not (ne_eqb k v (λ e. ne (sym here ∙ e))))

    chosen : turns_for v i role k (r ∷ roles) ≡ turn v i k ∷ turns_for v i role (k + 1) roles
    chosen = cond-true (r == role && not (k == v)) (turn v i k ∷ turns_for v i role (k + 1) roles) (turns_for v i role (k + 1) roles) taken
for_process v i role k (suc n) (r ∷ roles) is ne =
    further_on (r == role && not (k == v)) (turn v i k) (turns_for v i role (k + 1) roles) (turn v i (k + suc n))
    (subst (λ m. Among (turns_for v i role (k + 1) roles) (turn v i m)) (further k n) (for_process v i role (k + 1) n roles is (λ e. ne (sym (further k n) ∙ e))))

-- the turns of a step are among those of the script
in_script : (roles : List ℕ) (v i n : ℕ) (steps : List Step) (step : Step) (t : Turn) → slice_get steps n ≡ Some step
    → Among (step_turns roles v (i + n) step) t → Among (steps_turns roles v i steps) t
in_script roles v i n [] step t is a = absurd (none-some step is)
in_script roles v i zero (s ∷ steps) step t is a =
    among_left (step_turns roles v i s) (steps_turns roles v (i + 1) steps) t
    (subst (λ w. Among (step_turns roles v i w) t) (sym (same_Some _ _ is)) (subst (λ m. Among (step_turns roles v m step) t) here a))
  where
    here : i + 0 ≡ i
    here = omega arith
in_script roles v i (suc n) (s ∷ steps) step t is a =
    among_right (step_turns roles v i s) (steps_turns roles v (i + 1) steps) t
    (in_script roles v (i + 1) n steps step t is (subst (λ m. Among (step_turns roles v m step) t) further a))
  where
    further : i + suc n ≡ i + 1 + n
    further = omega arith

-- those of a caller are among those of all
of_caller : (p : Pattern) (all : List ℕ) (v n role : ℕ) (roles : List ℕ) (t : Turn) → slice_get roles n ≡ Some role
    → Among (steps_turns all (v + n) 0 (steps_in (slice_get p.roles role))) t → Among (callers_turns p all v roles) t
of_caller p all v n role [] t is a = absurd (none-some role is)
of_caller p all v zero role (r ∷ roles) t is a =
    among_left (steps_turns all v 0 (steps_in (slice_get p.roles r))) (callers_turns p all (v + 1) roles) t
    (subst (λ w. Among (steps_turns all v 0 (steps_in (slice_get p.roles w))) t) (sym (same_Some _ _ is))
    (subst (λ m. Among (steps_turns all m 0 (steps_in (slice_get p.roles role))) t) here a))
  where
    here : v + 0 ≡ v
    here = omega arith
of_caller p all v (suc n) role (r ∷ roles) t is a =
    among_right (steps_turns all v 0 (steps_in (slice_get p.roles r))) (callers_turns p all (v + 1) roles) t
    (of_caller p all (v + 1) n role roles t is (subst (λ m. Among (steps_turns all m 0 (steps_in (slice_get p.roles role))) t) further a))
  where
    further : v + suc n ≡ v + 1 + n
    further = omega arith

-- each turn of a loop of `for some` that doesn't only read is among them
pub may_be_left : (p : Pattern) (roles : List ℕ) (v i e role number over : ℕ) (lines : List Line) → slice_get roles v ≡ Some role
    → slice_get (steps_in (slice_get p.roles role)) i ≡ Some (Loop number over Chosen lines) → are_reads lines ≡ false
    → slice_get roles e ≡ Some over → (e ≢ v) → Among (callers_turns p roles 0 roles) (turn v i e)
may_be_left p roles v i e role number over lines of_v there reads of_e ne =
    of_caller p roles 0 v role roles (turn v i e) of_v (subst (λ m. Among (steps_turns roles m 0 (steps_in (slice_get p.roles role))) (turn v i e)) (sym zero_v)
    (in_script roles v 0 i (steps_in (slice_get p.roles role)) (Loop number over Chosen lines) (turn v i e) there
    (subst (λ m. Among (step_turns roles v m (Loop number over Chosen lines)) (turn v i e)) (sym zero_i)
    (subst (λ us. Among us (turn v i e)) (sym open_turns) there_is))))
  where
    open_turns : step_turns roles v i (Loop number over Chosen lines) ≡ turns_for v i over 0 roles
    open_turns = cond-false (are_reads lines) [] (turns_for v i over 0 roles) reads

    zero_v : 0 + v ≡ v
    zero_v = omega arith

    zero_i : 0 + i ≡ i
    zero_i = omega arith

    none : 0 + e ≡ e
    none = omega arith

    there_is : Among (turns_for v i over 0 roles) (turn v i e)
    there_is = subst (λ m. Among (turns_for v i over 0 roles) (turn v i m)) none (for_process v i over 0 e roles of_e (λ s. ne (sym none ∙ s)))
