-- No run is longer than the number of events.
use Rattle.std.proofs.Common.{true, ◌≡◌, ℕ, zero, suc, ◌+◌, ◌-◌, ◌<◌, ◌≤◌, List, [], ◌∷◌, length, refl, sym, ◌∙◌, subst, arith}
use Rattle.std.specs.Prelude.{slice_get, sum_by}
use Rattle.std.proofs.lemmas.List.Sums.{sum_by-cons}
use Rattle.wire_runs.specs.Plan.{Plan, Process, kinds_of, process_kinds, kinds, event_count}
use Rattle.wire_runs.specs.State.{State, start, next_kind}
use Rattle.wire_runs.specs.Step.{step, IsInterleaving, is_enabled}
use Rattle.wire_runs.specs.Laws.{RunsEnd}
use Rattle.wire_runs.proofs.Basics.{event_within}
use Rattle.wire_runs.proofs.Due.{done_same, done_other, has_event}

-- how many events are left to the processes, the first of which is p
pub left_from : List Process → (ℕ → ℕ) → ℕ → ℕ
left_from [] done p = 0
left_from (process ∷ plan) done p = (length (kinds_of process.calls) - done p) + left_from plan done (suc p)

left_same : (plan : List Process) (f g : ℕ → ℕ) (p : ℕ) → ((q : ℕ) → p ≤ q → f q ≡ g q) → left_from plan f p ≡ left_from plan g p
unfolding left_from
left_same [] f g p same = refl
left_same (process ∷ plan) f g p same =
    let here = same p (omega arith) in
    let rest = left_same plan f g (suc p) (λ q le. same q (omega (arith, le))) in
    omega (arith, here, rest)

-- a step of the process at place i leaves one event less
left_step : (plan : List Process) (f g : ℕ → ℕ) (p i : ℕ) → f (p + i) < length (process_kinds (slice_get plan i)) → g (p + i) ≡ suc (f (p + i)) → ((q : ℕ) → (q ≡ p + i → ⊥) → g q ≡ f q) →
    suc (left_from plan g p) ≡ left_from plan f p
unfolding left_from
left_step [] f g p i lt now other = absurd (omega (arith, lt))
left_step (process ∷ plan) f g p zero lt now other =
    let e : p + 0 ≡ p = omega arith in
    let now' : g p ≡ suc (f p) = subst (λ k. g k ≡ suc (f k)) e now in
    let lt' : f p < length (kinds_of process.calls) = subst (λ k. f k < length (kinds_of process.calls)) e lt in
    let rest = left_same plan g f (suc p) (λ q le. other q (λ eq. omega (arith, le, eq))) in
    omega (arith, now', lt', rest)
left_step (process ∷ plan) f g p (suc i) lt now other =
    let e : p + suc i ≡ suc p + i = omega arith in
    let here = other p (λ eq. omega (arith, eq)) in
    let rest = left_step plan f g (suc p) i (subst (λ k. f k < length (process_kinds (slice_get plan i))) e lt) (subst (λ k. g k ≡ suc (f k)) e now) (λ q ne. other q (λ eq. ne (eq ∙ e))) in
    omega (arith, here, rest)

pub left_falls : (plan : Plan) (s : State) (p : ℕ) → is_enabled plan s p ≡ true → suc (left_from plan.processes (step plan s p).done 0) ≡ left_from plan.processes s.done 0
unfolding event_count kinds
left_falls plan s p h =
    let v = has_event plan s p (next_kind plan s p) refl h in
    let lt = event_within plan p (s.done p) v.0 v.1 in
    let e : 0 + p ≡ p = omega arith in
    left_step plan.processes s.done (step plan s p).done 0 p (rw e lt) (rw e (done_same plan s p)) (λ q ne. done_other plan s p q (λ eq. ne (eq ∙ sym e)))

within_left : (plan : Plan) (w : List ℕ) (s : State) → IsInterleaving plan s w → length w ≤ left_from plan.processes s.done 0
within_left plan [] s h = omega arith
within_left plan (p ∷ w) s h = let less = left_falls plan s p h.0 in omega (arith, within_left plan w (step plan s p) h.1, less)

pub left_at_start : (plan : List Process) (p : ℕ) → left_from plan (λ q. 0) p ≤ sum_by (λ (process : Process). length (kinds_of process.calls)) plan
unfolding left_from
left_at_start [] p = omega arith
left_at_start (process ∷ plan) p = omega (arith, left_at_start plan (suc p), sum_by-cons (λ (process : Process). length (kinds_of process.calls)) process plan)

pub runs_end : RunsEnd
runs_end plan w h = omega (arith, within_left plan w start h, left_at_start plan.processes 0)
