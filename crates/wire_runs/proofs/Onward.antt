-- A run that goes on: it comes to states that a run can reach, and takes nothing back.
use Rattle.std.proofs.Common.{◌≡◌, ℕ, ◌<◌, ◌≤◌, List, [], ◌∷◌, ◌++◌, true, false, ◌⊎◌, inl, inr, refl, sym, ap, ◌∙◌, subst, arith, append_assoc, append-nil}
use Rattle.std.proofs.lemmas.Bool.{cases_eq, false_from_ne_true}
use Rattle.wire_runs.specs.Plan.{Plan, kind, Event}
use Rattle.wire_runs.specs.State.{Answer, State, start, next_event, IsDone}
use Rattle.wire_runs.specs.Names.{writes_name}
use Rattle.wire_runs.specs.Step.{is_enabled, reply, step, IsInterleaving, run_from, IsReachable}
use Rattle.wire_runs.proofs.Due.{Sound, sound_step, done_other, done_up, done_now, done_kept}
use Rattle.wire_runs.proofs.Known.{replies_same, replies_other}
use Rattle.wire_runs.proofs.Diamond.{name_kept}
use Rattle.wire_runs.proofs.Runs.{run_append, legal_append}

pub reached_on : (plan : Plan) (s : State) (w : List ℕ) → IsReachable plan s → IsInterleaving plan s w → IsReachable plan (run_from plan s w)
reached_on plan s w r h =
    (r.0 ++ w, legal_append plan start r.0 w r.1 (subst (λ t. IsInterleaving plan t w) (sym r.2) h), run_append plan start r.0 w ∙ ap (λ t. run_from plan t w) r.2)

pub done_on : (plan : Plan) (w : List ℕ) (s : State) (p : ℕ) → s.done p ≤ (run_from plan s w).done p
done_on plan [] s p = omega arith
done_on plan (q ∷ w) s p = let here = done_up plan s q p in let rest = done_on plan w (step plan s q) p in omega (arith, here, rest)

-- the replies of p in t begin with those in s
abbrev pub Begin : State → State → ℕ → Type 0
Begin s t p = (more : List Answer) × (t.replies p ≡ s.replies p ++ more)

pub replies_on : (plan : Plan) (w : List ℕ) (s : State) (p : ℕ) → Begin s (run_from plan s w) p
replies_on plan [] s p = ([], sym (append-nil (s.replies p)))
replies_on plan (q ∷ w) s p = go (cases_eq p q) (replies_on plan w (step plan s q) p)
  where
    said : Answer
    said = reply plan s (next_event s q) (kind plan (next_event s q))

    go : (p ≡ q) ⊎ (p ≡ q → ⊥) → Begin (step plan s q) (run_from plan (step plan s q) w) p → Begin s (run_from plan (step plan s q) w) p
    go (inl e) rest =
        let now : (step plan s q).replies p ≡ s.replies p ++ said ∷ [] = subst (λ r. (step plan s q).replies r ≡ s.replies r ++ said ∷ []) (sym e) (replies_same plan s q) in
        (said ∷ rest.0, rest.1 ∙ ap (λ xs. xs ++ rest.0) now ∙ append_assoc (s.replies p) (said ∷ []) rest.0)
    go (inr ne) rest = (rest.0, rest.1 ∙ ap (λ xs. xs ++ rest.0) (replies_other plan s q p ne))

-- a run comes from s to where p is enabled, and its next event is still the same
abbrev pub ComesToNext : Plan → State → ℕ → Type 0
ComesToNext plan s p = (u : List ℕ) × IsInterleaving plan s u × ((run_from plan s u).done p ≡ s.done p) × (is_enabled plan (run_from plan s u) p ≡ true)

-- so does one that does more of p
pub comes_to_next : (plan : Plan) (p : ℕ) (w : List ℕ) (s : State) → IsInterleaving plan s w → s.done p < (run_from plan s w).done p → ComesToNext plan s p
comes_to_next plan p [] s h more = absurd (omega (arith, more))
comes_to_next plan p (q ∷ w) s h more = go (cases_eq p q) (comes_to_next plan p w (step plan s q) h.1)
  where
    go : (p ≡ q) ⊎ (p ≡ q → ⊥) → ((step plan s q).done p < (run_from plan (step plan s q) w).done p → ComesToNext plan (step plan s q) p) → ComesToNext plan s p
    go (inl e) later = ([], tt, refl, subst (λ r. is_enabled plan s r ≡ true) (sym e) h.0)
    go (inr ne) later =
        let same = done_other plan s q p ne in
        let l = later (omega (arith, more, same)) in
        (q ∷ l.0, (h.0, l.1), l.2 ∙ same, l.3)

-- none of the events that are done in t and not in s can change the name
abbrev pub NoneWrites : Plan → ℕ → State → State → Type 0
NoneWrites plan n s t = (z : Event) → IsDone t z → (IsDone s z → ⊥) → writes_name plan n z (kind plan z) ≡ true → ⊥

pub names_on : (plan : Plan) (n : ℕ) (u : List ℕ) (s : State) → Sound plan s → IsInterleaving plan s u → NoneWrites plan n s (run_from plan s u) → (run_from plan s u).names n ≡ s.names n
names_on plan n [] s k h none = refl
names_on plan n (q ∷ u) s k h none =
    let x = next_event s q in
    let then_done : IsDone (run_from plan (step plan s q) u) x = (let now = done_now plan s q in let rest = done_on plan u (step plan s q) q in omega (arith, now, rest)) in
    let leaves_it : writes_name plan n x (kind plan x) ≡ false = false_from_ne_true _ (none x then_done (λ d. omega (arith, d))) in
    names_on plan n u (step plan s q) (sound_step plan s q k h.0) h.1 (λ z now was. none z now (λ d. was (done_kept plan s q z d)))
    ∙ name_kept plan (kind plan x) x (s.names n) n (λ z i. (k.named n z i).0) leaves_it
