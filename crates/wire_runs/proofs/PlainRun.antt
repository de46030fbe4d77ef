-- The plain run is a run that can't go on.
use Rattle.std.proofs.Common.{◌≡◌, ℕ, zero, suc, ◌<◌, ◌≤◌, [], take, true, false, cond, Option, Some, None, inl, inr, refl, sym, ◌∙◌, subst, arith}
use Rattle.std.proofs.lemmas.Bool.{cond-true, cond-false, cases_eq, cases_Bool, true≢false, false_from_ne_true}
use Rattle.std.proofs.lemmas.Option.{same_Some, slice_get_within}
use Rattle.std.specs.Prelude.{slice_get}
use Rattle.wire_runs.specs.Plan.{Plan, event_total, process_count}
use Rattle.wire_runs.specs.State.{State, start, next_kind}
use Rattle.wire_runs.specs.Step.{is_enabled, step, IsInterleaving, run_from, IsEnd}
use Rattle.wire_runs.specs.PlainRun.{or_else, lowest, go_on, plain_from, plain_run}
use Rattle.wire_runs.specs.Laws.{PlainRuns}
use Rattle.wire_runs.proofs.Basics.{process_within}
use Rattle.wire_runs.proofs.Due.{has_event}
use Rattle.wire_runs.proofs.Length.{left_from, left_falls, left_at_start}
use Rattle.wire_runs.proofs.OneEnd.{settled_one_end}

-- a process that is enabled is one of the plan's
pub enabled_within : (plan : Plan) (s : State) (p : ℕ) → is_enabled plan s p ≡ true → p < process_count plan
enabled_within plan s p h = let v = has_event plan s p (next_kind plan s p) refl h in process_within plan p (s.done p) v.0 v.1

pub lowest_enabled : (plan : Plan) (s : State) (n p : ℕ) → lowest plan s n ≡ Some p → is_enabled plan s p ≡ true
lowest_enabled plan s zero p h = cc
lowest_enabled plan s (suc n) p h = go (lowest plan s n) refl h (lowest_enabled plan s n p)
  where
    go : (o : Option ℕ) → lowest plan s n ≡ o → or_else o (cond (is_enabled plan s n) (Some n) None) ≡ Some p → (lowest plan s n ≡ Some p → is_enabled plan s p ≡ true) → is_enabled plan s p ≡ true
    go (Some q) e h ih = ih (e ∙ h)
    go None e h ih = elim (cases_Bool (is_enabled plan s n)) [
      | inl t ↦ (let r : n ≡ p = same_Some _ _ (sym (cond-true _ _ _ t) ∙ h) in subst (λ q. is_enabled plan s q ≡ true) r t)
      | inr f ↦ (let r : None ≡ Some p = sym (cond-false _ _ _ f) ∙ h in cc)
    ]

pub none_enabled : (plan : Plan) (s : State) (n p : ℕ) → lowest plan s n ≡ None → p < n → is_enabled plan s p ≡ false
none_enabled plan s zero p h lt = absurd (omega (arith, lt))
none_enabled plan s (suc n) p h lt = go (lowest plan s n) refl h (none_enabled plan s n p)
  where
    go : (o : Option ℕ) → lowest plan s n ≡ o → or_else o (cond (is_enabled plan s n) (Some n) None) ≡ None → (lowest plan s n ≡ None → p < n → is_enabled plan s p ≡ false) →
        is_enabled plan s p ≡ false
    go (Some q) e h ih = cc
    go None e h ih = elim (cases_Bool (is_enabled plan s n)) [
      | inl t ↦ (let r : Some n ≡ None = sym (cond-true _ _ _ t) ∙ h in cc)
      | inr f ↦ elim (cases_eq p n) [ inl e' ↦ subst (λ q. is_enabled plan s q ≡ false) (sym e') f | inr ne ↦ ih e (omega (arith, lt, ne)) ]
    ]

-- the lowest of the first n is the lowest of more
pub lowest_stays : (plan : Plan) (s : State) (n m p : ℕ) → n ≤ m → lowest plan s n ≡ Some p → lowest plan s m ≡ Some p
lowest_stays plan s n zero p le h = elim (cases_eq n 0) [
  | inl e ↦ subst (λ k. lowest plan s k ≡ Some p) e h
  | inr ne ↦ absurd (omega (arith, le, ne))
]
lowest_stays plan s n (suc m) p le h = elim (cases_eq n (suc m)) [
  | inl e ↦ subst (λ k. lowest plan s k ≡ Some p) e h
  | inr ne ↦ rw (lowest_stays plan s n m p (omega (arith, le, ne)) h) refl
]

pub plain_is_run : (plan : Plan) (fuel : ℕ) (s : State) → IsInterleaving plan s (plain_from plan fuel s)
plain_is_run plan zero s = tt
plain_is_run plan (suc fuel) s = go (lowest plan s (process_count plan)) refl (λ p. plain_is_run plan fuel (step plan s p))
  where
    go : (o : Option ℕ) → lowest plan s (process_count plan) ≡ o → ((p : ℕ) → IsInterleaving plan (step plan s p) (plain_from plan fuel (step plan s p))) →
        IsInterleaving plan s (go_on o (λ p. plain_from plan fuel (step plan s p)))
    go None e rest = tt
    go (Some p) e rest = (lowest_enabled plan s (process_count plan) p e, rest p)

pub plain_ends : (plan : Plan) (fuel : ℕ) (s : State) → left_from plan.processes s.done 0 ≤ fuel → IsEnd plan (run_from plan s (plain_from plan fuel s))
plain_ends plan zero s le = λ p. false_from_ne_true _ (λ h. let f = left_falls plan s p h in omega (arith, f, le))
plain_ends plan (suc fuel) s le = go (lowest plan s (process_count plan)) refl (λ p. plain_ends plan fuel (step plan s p))
  where
    go : (o : Option ℕ) → lowest plan s (process_count plan) ≡ o → ((p : ℕ) → left_from plan.processes (step plan s p).done 0 ≤ fuel →
        IsEnd plan (run_from plan (step plan s p) (plain_from plan fuel (step plan s p)))) → IsEnd plan (run_from plan s (go_on o (λ p. plain_from plan fuel (step plan s p))))
    go None e rest = λ p. false_from_ne_true _ (λ h. true≢false (sym h ∙ none_enabled plan s (process_count plan) p e (enabled_within plan s p h)))
    go (Some p) e rest = rest p (let f = left_falls plan s p (lowest_enabled plan s (process_count plan) p e) in omega (arith, f, le))

-- of the first n the lowest that is enabled has none below it
none_below : (plan : Plan) (s : State) (n p q : ℕ) → lowest plan s n ≡ Some p → q < p → is_enabled plan s q ≡ false
none_below plan s zero p q h lt = cc
none_below plan s (suc n) p q h lt = go (lowest plan s n) refl h (none_below plan s n p q)
  where
    go : (o : Option ℕ) → lowest plan s n ≡ o → or_else o (cond (is_enabled plan s n) (Some n) None) ≡ Some p → (lowest plan s n ≡ Some p → q < p → is_enabled plan s q ≡ false) →
        is_enabled plan s q ≡ false
    go (Some r) e h ih = ih (e ∙ h) lt
    go None e h ih = elim (cases_Bool (is_enabled plan s n)) [
      | inl t ↦ (let r : n ≡ p = same_Some _ _ (sym (cond-true _ _ _ t) ∙ h) in none_enabled plan s n q e (omega (arith, r, lt)))
      | inr f ↦ (let r : None ≡ Some p = sym (cond-false _ _ _ f) ∙ h in cc)
    ]

-- at each step of the plain run nobody below is enabled
plain_is_lowest : (plan : Plan) (fuel : ℕ) (s : State) (n p q : ℕ) → slice_get (plain_from plan fuel s) n ≡ Some p → q < p →
    is_enabled plan (run_from plan s (take n (plain_from plan fuel s))) q ≡ false
plain_is_lowest plan zero s n p q h lt = absurd (nothing n h)
  where
    nothing : (n : ℕ) → slice_get [] n ≡ Some p → ⊥
    nothing n h = let within = slice_get_within [] n p h in omega (arith, within)
plain_is_lowest plan (suc fuel) s n p q h lt = go (lowest plan s (process_count plan)) refl n h (λ r m. plain_is_lowest plan fuel (step plan s r) m p q)
  where
    go : (o : Option ℕ) → lowest plan s (process_count plan) ≡ o → (n : ℕ) → slice_get (go_on o (λ r. plain_from plan fuel (step plan s r))) n ≡ Some p
        → ((r m : ℕ) → slice_get (plain_from plan fuel (step plan s r)) m ≡ Some p → q < p → is_enabled plan (run_from plan (step plan s r) (take m (plain_from plan fuel (step plan s r)))) q ≡ false)
        → is_enabled plan (run_from plan s (take n (go_on o (λ r. plain_from plan fuel (step plan s r))))) q ≡ false
    go None e n h ih = absurd (let within = slice_get_within [] n p h in omega (arith, within))
    go (Some r) e zero h ih = none_below plan s (process_count plan) p q (e ∙ h) lt
    go (Some r) e (suc n) h ih = ih r n h lt

pub plain_runs : (plan : Plan) → PlainRuns plan
plain_runs plan =
    let ends : IsEnd plan (run_from plan start (plain_run plan)) = plain_ends plan _ start (left_at_start plan.processes 0) in
    let is_run : IsInterleaving plan start (plain_run plan) = plain_is_run plan _ start in
    record { is_run = is_run; ends = ends; is_lowest = plain_is_lowest plan (event_total plan) start; is_the_end = λ settled w h e. settled_one_end plan w (plain_run plan) settled h is_run e ends }
