-- Cuts of a run: the first one, and that after one more event.
use Rattle.std.proofs.Common.{◌≡◌, ℕ, zero, suc, ◌+◌, ◌<◌, List, [], ◌∷◌, ◌++◌, true, replicate, length, set, get_or, refl, sym, ap, ◌∙◌, subst, inl, inr, arith, get_or-set_same, get_or-set_other}
use Rattle.std.proofs.lemmas.Bool.{cases_eq}
use Rattle.std.proofs.Math.Path.{fun_ext}
use Rattle.wire_runs.specs.Plan.{Plan, Event}
use Rattle.wire_runs.specs.State.{State, start, next_event, IsDone}
use Rattle.wire_runs.specs.Step.{is_enabled, step, IsReachable}
use Rattle.wire_runs.specs.Order.{Edge}
use Rattle.wire_runs.specs.Fate.{Fate, Waits, HasFate, IsSoundCut}
use Rattle.wire_runs.specs.Laws.{FatesHold}
use Rattle.wire_runs.proofs.Due.{done_same, done_other, reachable_sound}
use Rattle.wire_runs.proofs.Fates.{runs_are_sound}
use Rattle.wire_runs.proofs.Runs.{run_push, legal_push}
use Rattle.wire_scripts.specs.Scripts.{Scripts}
use Rattle.wire_scripts.specs.Planned.{plan_of}
use Rattle.wire_board.specs.declared.hold.Hold.{Hold}
use Rattle.wire_board.specs.Cuts.{IsReachedCut, Implies, CutsAreSound}
use Rattle.wire_board.specs.Positions.{HoldFits, next_in, ShowsNextIn, ImpliesNextIn}

pub zero_at : (n r : ℕ) → get_or (replicate {A = ℕ} n 0) r 0 ≡ 0
zero_at zero r = refl
zero_at (suc n) zero = refl
zero_at (suc n) (suc r) = zero_at n r

pub cut_start : (plan : Plan) (n : ℕ) → IsReachedCut plan (replicate {A = ℕ} n 0)
cut_start plan n = record { state = start; reached = ([], tt, refl); done = λ p. sym (zero_at n p) }

-- One more event

reached_more : (plan : Plan) (s : State) (p : ℕ) → IsReachable plan s → is_enabled plan s p ≡ true → IsReachable plan (step plan s p)
reached_more plan s p r on =
    (r.0 ++ p ∷ [], legal_push plan start r.0 p r.1 (subst (λ t. is_enabled plan t p ≡ true) (sym r.2) on), run_push plan start r.0 p ∙ ap (λ t. step plan t p) r.2)

cut_more : (plan : Plan) (words : List ℕ) (p : ℕ) → p < length words → (c : IsReachedCut plan words) → is_enabled plan c.state p ≡ true → IsReachedCut plan (set words p (get_or words p 0 + 1))
cut_more plan words p here c on = record {
  state = step plan c.state p;
  reached = reached_more plan c.state p c.reached on;
  done = λ q. elim (cases_eq q p) [
    | inl e ↦ subst (λ k. (step plan c.state p).done k ≡ get_or (set words p (get_or words p 0 + 1)) k 0) (sym e)
        (let same = get_or-set_same words p (get_or words p 0 + 1) 0 here in let d = done_same plan c.state p in let was = c.done p in omega (arith, same, d, was))
    | inr ne ↦ done_other plan c.state p q ne ∙ (c.done q ∙ sym (get_or-set_other words p q (get_or words p 0 + 1) 0 ne))
  ];
}

-- what fates tell of a settled plan: each event has one, and in each state that a run can come to they tell who can run
pub record AreTold (plan : Plan) : Type 0 where
  pub some : (y : Event) → (fate : Fate) × HasFate plan y fate
  pub tell : (s : State) → IsReachable plan s → FatesHold plan s

enabled : (plan : Plan) (s : State) (p : ℕ) → AreTold plan → IsReachable plan s → ((x : Event) → Edge plan x (next_event s p) → IsDone s x) → ¬ (HasFate plan (next_event s p) Waits) →
    is_enabled plan s p ≡ true
enabled plan s p told r sources comes =
    let f = told.some (next_event s p) in
    ((told.tell s r).enabled p f.0 f.1).1 (sources, λ (e : f.0 ≡ Waits). comes (subst (HasFate plan (next_event s p)) e f.1))

-- what is shown is implied
pub shown_implied : (plan : Plan) (h : Hold) → ShowsNextIn plan h → ImpliesNextIn plan h
shown_implied plan h shown = record { next = shown.next; sources = λ x e. inl (shown.sources x e); comes = shown.comes }

-- what is known to be done is done
known_done : (plan : Scripts) (words : List ℕ) (h : Hold) → (c : IsReachedCut (plan_of plan) words) → HoldFits plan words h → (x : Event) → x.at < get_or h.known x.proc 0 → IsDone c.state x
known_done plan words h c f x k = let b = f.below x.proc in let d = c.done x.proc in omega (arith, k, b, d)

-- and so is what it waited for
implied_done : (plan : Scripts) (words : List ℕ) (h : Hold) → (c : IsReachedCut (plan_of plan) words) → HoldFits plan words h → (x : Event) → Implies (plan_of plan) h.known x → IsDone c.state x
implied_done plan words h c f x (inl k) = known_done plan words h c f x k
implied_done plan words h c f x (inr z) = (reachable_sound (plan_of plan) c.state c.reached).closed x z.0 z.1 (known_done plan words h c f z.0 z.2)

-- what the owner of a rank knows implies that its next event can happen, and so it can
implied_enabled : (plan : Scripts) (words : List ℕ) (h : Hold) → AreTold (plan_of plan) → (c : IsReachedCut (plan_of plan) words) → HoldFits plan words h → ImpliesNextIn (plan_of plan) h →
    is_enabled (plan_of plan) c.state h.rank ≡ true
implied_enabled plan words h told c f implied =
    let same : next_in h ≡ next_event c.state h.rank = λ i. record { proc = h.rank; at = (f.place ∙ sym (c.done h.rank)) i } in
    enabled (plan_of plan) c.state h.rank told c.reached
    (λ x e. implied_done plan words h c f x (implied.sources x (subst (λ y. Edge (plan_of plan) x y) (sym same) e)))
    (λ w. implied.comes (subst (λ y. HasFate (plan_of plan) y Waits) (sym same) w))

pub reaches : (plan : Scripts) (words : List ℕ) (h : Hold) → AreTold (plan_of plan) → IsReachedCut (plan_of plan) words → HoldFits plan words h → ImpliesNextIn (plan_of plan) h →
    IsReachedCut (plan_of plan) (set words h.rank (get_or h.known h.rank 0 + 1))
reaches plan words h told c f implied =
    subst (λ n. IsReachedCut (plan_of plan) (set words h.rank (n + 1))) (sym f.place)
    (cut_more (plan_of plan) words h.rank f.here c (implied_enabled plan words h told c f implied))

pub cuts_are_sound : CutsAreSound
cuts_are_sound plan words settled c = subst (IsSoundCut plan) (fun_ext c.done) (runs_are_sound plan c.state settled c.reached)
