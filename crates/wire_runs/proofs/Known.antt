-- What each state of a settled plan's run keeps of its replies.
use Rattle.std.proofs.Common.{◌≡◌, ℕ, ◌≤◌, List, [], ◌∷◌, ◌++◌, true, length, Some, inl, inr, refl, sym, ap, ◌∙◌, subst, arith, ne_eqb}
use Rattle.std.specs.Prelude.{slice_get}
use Rattle.std.proofs.lemmas.List.{length_push}
use Rattle.std.proofs.lemmas.Bool.{cond-false, cases_eq}
use Rattle.wire_runs.specs.Plan.{Plan, Event, Get, kind, event_count, same_node}
use Rattle.wire_runs.specs.State.{Answer, State, start, next_event, next_kind}
use Rattle.wire_runs.specs.Sight.{served}
use Rattle.wire_runs.specs.Step.{is_enabled, may_do, sight_reply, reply, step, IsInterleaving, run_from, IsReachable}
use Rattle.wire_runs.specs.Races.{IsSettled}
use Rattle.wire_runs.proofs.Basics.{update_same, update_other}
use Rattle.wire_runs.proofs.Due.{Sound, sound_start, sound_step, done_same, done_other, done_was, other_seen}
use Rattle.wire_runs.proofs.Puts.{stored_fixed}
use Rattle.wire_runs.proofs.Getters.{last_answer, Answered}
use Rattle.wire_runs.proofs.Lists.{slice_get_push_kept, slice_get_push_last}

pub replies_same : (plan : Plan) (s : State) (p : ℕ) → (step plan s p).replies p ≡ s.replies p ++ reply plan s (next_event s p) (kind plan (next_event s p)) ∷ []
replies_same plan s p = update_same s.replies p (s.replies p ++ reply plan s (next_event s p) (next_kind plan s p) ∷ [])

pub replies_other : (plan : Plan) (s : State) (p q : ℕ) → (q ≡ p → ⊥) → (step plan s p).replies q ≡ s.replies q
replies_other plan s p q ne = update_other s.replies p (s.replies p ++ reply plan s (next_event s p) (next_kind plan s p) ∷ []) q ne

-- a reply stays
pub reply_kept : (plan : Plan) (s : State) (p : ℕ) (z : Event) (a : Answer) → slice_get (s.replies z.proc) z.at ≡ Some a → slice_get ((step plan s p).replies z.proc) z.at ≡ Some a
reply_kept plan s p z a h = elim (cases_eq z.proc p) [
  | inl e ↦
      (let here : slice_get (s.replies p) z.at ≡ Some a = ap (λ q. slice_get (s.replies q) z.at) (sym e) ∙ h in
      ap (λ q. slice_get ((step plan s p).replies q) z.at) e ∙ ap (λ xs. slice_get xs z.at) (replies_same plan s p) ∙ slice_get_push_kept (s.replies p) _ z.at a here)
  | inr ne ↦ ap (λ xs. slice_get xs z.at) (replies_other plan s p z.proc ne) ∙ h
]

pub record Known (plan : Plan) (s : State) : Type 0 where
  pub sound : Sound plan s
  pub lengths : (p : ℕ) → length (s.replies p) ≡ s.done p
  pub answered : Answered plan s

pub known_start : (plan : Plan) → Known plan start
known_start plan = record { sound = sound_start plan; lengths = λ p. refl; answered = λ z t key d. absurd (omega (arith, d)) }

pub reply_now : (plan : Plan) (s : State) (p : ℕ) → length (s.replies p) ≡ s.done p →
    slice_get ((step plan s p).replies p) (s.done p) ≡ Some (reply plan s (next_event s p) (kind plan (next_event s p)))
reply_now plan s p l =
    ap (λ xs. slice_get xs (s.done p)) (replies_same plan s p)
    ∙ ap (slice_get (s.replies p ++ reply plan s (next_event s p) (kind plan (next_event s p)) ∷ [])) (sym l)
    ∙ slice_get_push_last (s.replies p) (reply plan s (next_event s p) (kind plan (next_event s p)))

-- what a get of another's key is answered with
pub get_answer : (plan : Plan) → IsSettled plan → (s : State) → ((p : ℕ) → s.done p ≤ event_count plan p) → (y : Event) (t key : ℕ) → kind plan y ≡ Some (Get t key) → (y.proc ≡ t → ⊥) →
    may_do plan s y (kind plan y) ≡ true → reply plan s y (kind plan y) ≡ last_answer plan t key y.proc
get_answer plan settled s within y t key is other h =
    let seen = rw is at h in
    ap (reply plan s y) is
    ∙ ap (sight_reply t) (cond-false _ _ _ (ne_eqb y.proc t other))
    ∙ ap (λ o. sight_reply t (served plan t (same_node plan t y.proc) o))
    (sym (stored_fixed plan settled t key (s.done t) (event_count plan t) (within t) (other_seen plan s.done y.proc y.at t key other seen)))

pub known_step : (plan : Plan) → IsSettled plan → (s : State) (p : ℕ) → Known plan s → is_enabled plan s p ≡ true → Known plan (step plan s p)
known_step plan settled s p k h = record {
  sound = sound_step plan s p k.sound h;
  lengths = λ q. elim (cases_eq q p) [
    | inl e ↦ subst (λ r. length ((step plan s p).replies r) ≡ (step plan s p).done r) (sym e)
        (ap length (replies_same plan s p) ∙ (let l = length_push (s.replies p) (reply plan s (next_event s p) (kind plan (next_event s p))) in let m = k.lengths p in let d = done_same plan s p in
        omega (arith, l, m, d)))
    | inr ne ↦ ap length (replies_other plan s p q ne) ∙ k.lengths q ∙ sym (done_other plan s p q ne)
  ];
  answered = λ z t key d is other. elim (done_was plan s p z d) [
    | inl was ↦ reply_kept plan s p z _ (k.answered z t key was is other)
    | inr e ↦
        (let is_now : kind plan (next_event s p) ≡ Some (Get t key) = subst (λ v. kind plan v ≡ Some (Get t key)) e is in
        let other_now : p ≡ t → ⊥ = λ f. other (ap (λ (v : Event). v.proc) e ∙ f) in
        subst (λ v. slice_get ((step plan s p).replies v.proc) v.at ≡ Some (last_answer plan t key v.proc)) (sym e)
        (reply_now plan s p (k.lengths p) ∙ ap Some (get_answer plan settled s k.sound.within (next_event s p) t key is_now other_now h)))
  ];
}

known_run : (plan : Plan) → IsSettled plan → (w : List ℕ) (s : State) → Known plan s → IsInterleaving plan s w → Known plan (run_from plan s w)
known_run plan settled [] s k h = k
known_run plan settled (p ∷ w) s k h = known_run plan settled w (step plan s p) (known_step plan settled s p k h.0) h.1

pub reachable_known : (plan : Plan) → IsSettled plan → (s : State) → IsReachable plan s → Known plan s
reachable_known plan settled s r = subst (λ t. Known plan t) r.2 (known_run plan settled r.0 start (known_start plan) r.1)
