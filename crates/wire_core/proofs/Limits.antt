-- Runs within limits, one step at a time.
use Rattle.std.proofs.Common.{◌≡◌, ◌∙◌, ap, sym, refl, subst, ℕ, suc, ◌<◌, List, [], ◌∷◌, ◌++◌, length, inl, inr, arith}
use Rattle.std.proofs.lemmas.Bool.{cases_eq}
use Rattle.wire_runs.specs.Plan.{event_total}
use Rattle.wire_runs.specs.State.{start}
use Rattle.wire_runs.specs.Step.{step, IsInterleaving}
use Rattle.wire_runs.proofs.Due.{done_same, done_other}
use Rattle.wire_runs.proofs.Runs.{legal_push, run_append}
use Rattle.wire_core.specs.Course.{Course, plan_in, state_of}
use Rattle.wire_core.specs.Following.{Follows}
use Rattle.wire_core.specs.Within.{limit_at, MayGo}
use Rattle.wire_core.proofs.Following.{follows_none, follows_push}
use Rattle.wire_core.proofs.Steps.{step_history}

-- a run within limits so far
pub record Goes (limits : List ℕ) (old new : Course) : Type 0 where
  pub steps : List ℕ
  pub follows : Follows old steps new
  pub within : (p : ℕ) → limit_at limits p < (state_of new).done p → (state_of new).done p ≡ (state_of old).done p
  pub legal : IsInterleaving (plan_in new) start new.history

pub goes_none : (limits : List ℕ) (course : Course) → IsInterleaving (plan_in course) start course.history → Goes limits course course
goes_none limits course legal = record { steps = []; follows = follows_none course []; within = λ p past. refl; legal = legal }

-- the course after a step
abbrev pub stepped : Course → ℕ → Course
stepped course p = record { scripts = course.scripts; history = course.history ++ p ∷ [] }

state_stepped : (course : Course) (p : ℕ) → state_of (stepped course p) ≡ step (plan_in course) (state_of course) p
state_stepped course p = run_append (plan_in course) start course.history (p ∷ [])

within_stepped : (limits : List ℕ) (old now : Course) (p : ℕ) → MayGo (plan_in now) limits (state_of now) p →
    ((q : ℕ) → limit_at limits q < (state_of now).done q → (state_of now).done q ≡ (state_of old).done q) →
    (q : ℕ) → limit_at limits q < (state_of (stepped now p)).done q → (state_of (stepped now p)).done q ≡ (state_of old).done q
within_stepped limits old now p may was q past =
    let s = state_of now in
    let plan = plan_in now in
    let same : (state_of (stepped now p)).done q ≡ (step plan s p).done q = ap (λ t. t.done q) (state_stepped now p) in
    elim (cases_eq q p) [
      | inl e ↦
          let moved : (step plan s p).done q ≡ suc (s.done p) = ap (step plan s p).done e ∙ done_same plan s p in
          let limit : limit_at limits q ≡ limit_at limits p = ap (limit_at limits) e in
          let below = may.below in
          absurd (omega (arith, same, moved, limit, below, past))
      | inr ne ↦
          let kept = done_other plan s p q ne in
          let before : limit_at limits q < s.done q = omega (arith, same, kept, past) in
          same ∙ kept ∙ was q before
    ]

pub goes_on : (limits : List ℕ) (old now new : Course) (p : ℕ) → Goes limits old now → MayGo (plan_in now) limits (state_of now) p → new ≡ stepped now p → Goes limits old new
goes_on limits old now new p goes may is = record {
  steps = goes.steps ++ p ∷ [];
  follows = follows_push old now new goes.steps p goes.follows may.enabled is;
  within = subst (λ c. (q : ℕ) → limit_at limits q < (state_of c).done q → (state_of c).done q ≡ (state_of old).done q) (sym is) (within_stepped limits old now p may goes.within);
  legal = subst (λ c. IsInterleaving (plan_in c) start c.history) (sym is) (legal_push (plan_in now) start now.history p goes.legal may.enabled);
}

-- there is room for the step
pub has_room : (limits : List ℕ) (old now : Course) (p : ℕ) → Goes limits old now → MayGo (plan_in now) limits (state_of now) p → length now.history < event_total (plan_in now)
has_room limits old now p goes may = step_history (plan_in now) now.history p goes.legal may.enabled
