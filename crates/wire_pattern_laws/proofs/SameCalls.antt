-- Casts with the same roles: a line is one call in both, and with the same turns they make one plan.
use Rattle.std.proofs.Common.{◌≡◌, ℕ, suc, ◌+◌, ◌<◌, List, [], ◌∷◌, ◌++◌, length, Bool, true, false, not, ◌==◌, ◌&&◌, Option, Some, None, ◌⊎◌, inl, inr, refl, sym, ap, ◌∙◌, arith, eq-eqb, eqb-true}
use Rattle.std.specs.Prelude.{slice_get, filter}
use Rattle.std.proofs.lemmas.Bool.{cond-true, cond-false, cases_Bool, or_left, or_right, true≢false}
use Rattle.wire_runs.specs.Plan.{Process}
use Rattle.wire_runs.specs.Fences.{is_member}
use Rattle.wire_runs.specs.Patterns.{Line}
use Rattle.wire_runs.specs.Patterns.{InOrder, Round, Chosen, Step, Once, Loop, Pattern, Coding, Cast, group, turns, loop_calls, step_calls, calls_from, processes_from}
use Rattle.wire_runs.proofs.WholeSets.{plays, group_member}
use Rattle.wire_runs.proofs.SameRoles.{call_same, loop_same, in_order_same, round_same}
use Rattle.wire_pattern_laws.specs.Fuller.{MayTake, IsSameCast, SameInstance}

-- filters that agree on the list
pub filter_on : (f g : ℕ → Bool) (xs : List ℕ) → ((x : ℕ) → is_member xs x ≡ true → f x ≡ g x) → filter f xs ≡ filter g xs
filter_on f g [] same = refl
filter_on f g (x ∷ xs) same = go (cases_Bool (g x)) (filter_on f g xs (λ y i. same y (or_right (x == y) (is_member xs y) i)))
  where
    here : f x ≡ g x
    here = same x (or_left (x == x) (is_member xs x) (eq-eqb x x refl))

    go : (g x ≡ true) ⊎ (g x ≡ false) → filter f xs ≡ filter g xs → filter f (x ∷ xs) ≡ filter g (x ∷ xs)
    go (inl t) rest = cond-true _ _ _ (here ∙ t) ∙ ap (λ ys. x ∷ ys) rest ∙ sym (cond-true _ _ _ t)
    go (inr t) rest = cond-false _ _ _ (here ∙ t) ∙ rest ∙ sym (cond-false _ _ _ t)

-- what is asked of each turn of optional loops, said along the steps of a script. Asked: of the step's number, the
-- process and the lines
abbrev pub Turn : Type 1
Turn = ℕ → ℕ → List Line → Type 0

abbrev pub AskedHere : Cast → ℕ → Turn → ℕ → Step → Type 0
AskedHere cast v asked i (Once line) = Unit {0}
AskedHere cast v asked i (Loop role InOrder lines) = Unit {0}
AskedHere cast v asked i (Loop role Round lines) = Unit {0}
AskedHere cast v asked i (Loop role Chosen lines) = (e : ℕ) → is_member (group role cast.roles) e ≡ true → (e ≡ v → ⊥) → asked i e lines

abbrev pub AskedFrom : Cast → ℕ → Turn → ℕ → List Step → Type 0
AskedFrom cast v asked i [] = Unit {0}
AskedFrom cast v asked i (step ∷ steps) = AskedHere cast v asked i step × AskedFrom cast v asked (suc i) steps

-- a member of the group has its role
pub has_role : (role : ℕ) (roles : List ℕ) (e : ℕ) → is_member (group role roles) e ≡ true → slice_get roles e ≡ Some role
has_role role roles e i = go (slice_get roles e) (sym (group_member role roles e) ∙ i)
  where
    go : (o : Option ℕ) → plays o role ≡ true → o ≡ Some role
    go None h = absurd (true≢false (sym h))
    go (Some x) h = ap Some (eqb-true x role h)

module _ (pattern : Pattern) (cast : Cast) (v role : ℕ) (is : slice_get cast.roles v ≡ Some role) (asked : Turn) (ask : (i e : ℕ) (lines : List Line) → MayTake pattern cast v i e lines → asked i e lines) where
  ask_here : (i : ℕ) (step : Step) → slice_get (pattern.script role) i ≡ Some step → AskedHere cast v asked i step
  ask_here i (Once line) at = tt
  ask_here i (Loop other InOrder lines) at = tt
  ask_here i (Loop other Round lines) at = tt
  ask_here i (Loop other Chosen lines) at = λ e m ne. ask i e lines (record {
    role = role;
    loops_over = other;
    role_of_p = is;
    step = at;
    role_of_e = has_role other cast.roles e m;
    another = ne;
  })

  pub ask_from : (i : ℕ) (steps : List Step) → ((k : ℕ) (step : Step) → slice_get steps k ≡ Some step → slice_get (pattern.script role) (i + k) ≡ Some step) → AskedFrom cast v asked i steps
  ask_from i [] at = tt
  ask_from i (step ∷ steps) at = (
    ask_here i step ((let s : i ≡ i + 0 = omega arith in ap (slice_get (pattern.script role)) s) ∙ at 0 step refl),
    ask_from (suc i) steps (λ k next s. (let t : suc i + k ≡ i + suc k = omega arith in ap (slice_get (pattern.script role)) t) ∙ at (suc k) next s),
  )

  pub ask_all : AskedFrom cast v asked 0 (pattern.script role)
  ask_all = ask_from 0 (pattern.script role) (λ k step s. (let t : 0 + k ≡ k = omega arith in ap (slice_get (pattern.script role)) t) ∙ s)

-- with the same turns
module _ (coding : Coding) (cast other : Cast) (same : other.roles ≡ cast.roles) (v : ℕ) where
  abbrev SameTurn : Turn
  SameTurn i e lines = other.chosen v i e ≡ cast.chosen v i e

  chosen_same : (i role : ℕ) (lines : List Line) → AskedHere cast v SameTurn i (Loop role Chosen lines) → turns other v i role Chosen ≡ turns cast v i role Chosen
  chosen_same i role lines asked =
      ap (λ roles. filter (λ e. not (e == v) && other.chosen v i e) (group role roles)) same
      ∙ filter_on (λ e. not (e == v) && other.chosen v i e) (λ e. not (e == v) && cast.chosen v i e) (group role cast.roles) (λ e m. go e m (cases_Bool (e == v)))
    where
      go : (e : ℕ) → is_member (group role cast.roles) e ≡ true → ((e == v) ≡ true) ⊎ ((e == v) ≡ false) → (not (e == v) && other.chosen v i e) ≡ (not (e == v) && cast.chosen v i e)
      go e m (inl t) = ap (λ c. not c && other.chosen v i e) t ∙ sym (ap (λ c. not c && cast.chosen v i e) t)
      go e m (inr f) = ap (λ c. not (e == v) && c) (asked e m (λ s. true≢false (sym (eq-eqb e v s) ∙ f)))

  step_same : (i : ℕ) (step : Step) → AskedHere cast v SameTurn i step → step_calls coding other v i step ≡ step_calls coding cast v i step
  step_same i (Once line) asked = ap (λ c. c ∷ []) (call_same coding cast other same v v line)
  step_same i (Loop role InOrder lines) asked = loop_same coding cast other same v lines _ ∙ ap (loop_calls coding cast v lines) (in_order_same coding cast other same v i role)
  step_same i (Loop role Round lines) asked = loop_same coding cast other same v lines _ ∙ ap (loop_calls coding cast v lines) (round_same coding cast other same v i role)
  step_same i (Loop role Chosen lines) asked = loop_same coding cast other same v lines _ ∙ ap (loop_calls coding cast v lines) (chosen_same i role lines asked)

  pub calls_same : (i : ℕ) (steps : List Step) → AskedFrom cast v SameTurn i steps → calls_from coding other v i steps ≡ calls_from coding cast v i steps
  calls_same i [] asked = refl
  calls_same i (step ∷ steps) asked =
      ap (λ cs. cs ++ calls_from coding other v (suc i) steps) (step_same i step asked.0) ∙ ap (λ cs. step_calls coding cast v i step ++ cs) (calls_same (suc i) steps asked.1)

module _ (pattern : Pattern) (coding : Coding) (cast other : Cast) (same : IsSameCast pattern cast other) where
  processes_same : (q : ℕ) (roles : List ℕ) → ((k role : ℕ) → slice_get roles k ≡ Some role → slice_get cast.roles (q + k) ≡ Some role) → ((k : ℕ) → k < length roles → q + k < length cast.roles) →
      processes_from pattern coding other q roles ≡ processes_from pattern coding cast q roles
  processes_same q [] at within = refl
  processes_same q (role ∷ roles) at within =
      let here : q ≡ q + 0 = omega arith in
      let is : slice_get cast.roles q ≡ Some role = ap (slice_get cast.roles) here ∙ at 0 role refl in
      let lt : q < length cast.roles = (let l = within 0 (omega arith) in omega (arith, l)) in
      ap (λ n. record { node = n; calls = calls_from coding other q 0 (pattern.script role) } ∷ processes_from pattern coding other (suc q) roles) (same.nodes q lt)
      ∙ ap (λ cs. record { node = cast.nodes q; calls = cs } ∷ processes_from pattern coding other (suc q) roles)
      (calls_same coding cast other same.roles q 0 (pattern.script role) (ask_all pattern cast q role is (SameTurn coding cast other same.roles q) (λ i e lines may. same.turns q i e lines may)))
      ∙ ap (λ ps. record { node = cast.nodes q; calls = calls_from coding cast q 0 (pattern.script role) } ∷ ps)
      (processes_same (suc q) roles (λ k r s. (let t : suc q + k ≡ q + suc k = omega arith in ap (slice_get cast.roles) t) ∙ at (suc k) r s)
      (λ k l. let m = within (suc k) (omega (arith, l)) in omega (arith, m)))

pub same_instance : SameInstance
same_instance pattern coding cast other same =
    ap (λ (ps : List Process). record { processes = ps; keep = pattern.keep })
    (ap (processes_from pattern coding other 0) same.roles
    ∙ processes_same pattern coding cast other same 0 cast.roles (λ k role s. (let t : 0 + k ≡ k = omega arith in ap (slice_get cast.roles) t) ∙ s) (λ k l. omega (arith, l)))
