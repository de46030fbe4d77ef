-- One event more of a cut is a step.
use Rattle.std.proofs.Common.{◌≡◌, ℕ, suc, ◌<◌, List, [], ◌∷◌, take, true, inl, inr, refl, sym, ap, ◌∙◌, subst, arith}
use Rattle.std.proofs.lemmas.Bool.{cases_eq, cases_lt}
use Rattle.wire_runs.specs.Plan.{Plan, kind, Event}
use Rattle.wire_runs.specs.State.{State, next_event, IsDone}
use Rattle.wire_runs.specs.Names.{writes_name, calls_name}
use Rattle.wire_runs.specs.Step.{may_do, is_enabled, step, IsInterleaving, run_from}
use Rattle.wire_runs.specs.Order.{Edge, Announces, Live, Before, edge}
use Rattle.wire_runs.specs.Races.{IsSettled}
use Rattle.wire_runs.specs.Fate.{IsIn, left_by, HasFate}
use Rattle.wire_runs.specs.Laws.{plain_end, one_more, next_after, StepsMoveCuts, CutsTellSteps, OneState, OneEventBetween}
use Rattle.wire_runs.proofs.Basics.{update_same, update_other}
use Rattle.wire_runs.proofs.Due.{Sound, reachable_sound, closed_cut, chain_done, due, done_same, done_other, place_path}
use Rattle.wire_runs.proofs.Diamond.{writes_calls, writes_no_lookup, state_path}
use Rattle.wire_runs.proofs.Histories.{IsAsRun, no_cycle, same_process}
use Rattle.wire_runs.proofs.Getters.{Answered}
use Rattle.wire_runs.proofs.Known.{reachable_known}
use Rattle.wire_runs.proofs.Fates.{Kept, reachable_kept, fates_tell, may_same}
use Rattle.wire_runs.proofs.Onward.{reached_on, done_on, comes_to_next, names_on}
use Rattle.wire_runs.proofs.SoFar.{to_plain_end, replies_are_plain}

pub steps_move_cuts : StepsMoveCuts
steps_move_cuts plan cut s p c on = record {
  reached = reached_on plan s (p ∷ []) c.reached (on, tt);
  done = λ q. elim (cases_eq q p) [
    | inl e ↦ subst (λ r. (step plan s p).done r ≡ one_more cut p r) (sym e) (done_same plan s p ∙ ap suc (c.done p) ∙ sym (update_same cut p (suc (cut p))))
    | inr ne ↦ done_other plan s p q ne ∙ c.done q ∙ sym (update_other cut p (suc (cut p)) q ne)
  ];
}

pub cuts_tell_steps : CutsTellSteps
cuts_tell_steps plan cut s p fate settled c can =
    let same : next_event s p ≡ next_after cut p = λ i. record { proc = p; at = c.done p i } in
    let on : is_enabled plan s p ≡ true =
    ((fates_tell plan s settled c.reached).enabled p fate (subst (λ y. HasFate plan y fate) (sym same) can.has_fate)).1
    (λ x e. (let there = can.sources_done x (subst (λ y. Edge plan x y) same e) in let d = c.done x.proc in omega (arith, there, d)), can.comes) in
    record { enabled = on; moved = steps_move_cuts plan cut s p c on }

-- Two runs that have made the same calls which can change a name have made them in one order
module _ (plan : Plan) (settled : IsSettled plan) (n : ℕ) where
  abbrev Writes : Event → Type 0
  Writes z = Live plan z × (writes_name plan n z (kind plan z) ≡ true)

  one_if_unordered : (x y : Event) → Writes x → Writes y → (Before plan x y → ⊥) → (Before plan y x → ⊥) → x ≡ y
  one_if_unordered x y wx wy not_before not_after = elim (cases_eq x.proc y.proc) [
    | inl e ↦ elim (cases_lt x.at y.at) [
      | inl lt ↦ absurd (not_before (same_process plan x y wy.0 e lt))
      | inr ge ↦ elim (cases_lt y.at x.at) [
        | inl gt ↦ absurd (not_after (same_process plan y x wx.0 (sym e) gt))
        | inr le ↦ place_path x y.proc y.at e (omega (arith, ge, le))
      ]
    ]
    | inr others ↦ absurd (settled.no_name_race x y n (record {
      x_writes = wx.1;
      y_calls = writes_calls plan n y (kind plan y) wy.1;
      others = others;
      not_once = λ _. writes_no_lookup plan n n y (kind plan y) wy.1;
      unordered = record { live_x = wx.0; live_y = wy.0; not_before = not_before; not_after = not_after };
    }))
  ]

  abbrev Within : List Event → List Event → Type 0
  Within xs ys = (z : Event) → IsIn z xs → IsIn z ys

  one_run_order : (xs ys : List Event) → IsAsRun plan xs → IsAsRun plan ys → ((z : Event) → IsIn z xs → Writes z) → Within xs ys → Within ys xs → xs ≡ ys
  one_run_order [] [] r o writes into from = refl
  one_run_order [] (y ∷ ys) r o writes into from = absurd (from y (inl refl))
  one_run_order (x ∷ xs) [] r o writes into from = absurd (into x (inl refl))
  one_run_order (x ∷ xs) (y ∷ ys) r o writes into from =
      let heads : x ≡ y = elim (into x (inl refl)) [
        | inl e ↦ e
        | inr older ↦ elim (from y (inl refl)) [
          | inl e ↦ sym e
          | inr behind ↦ one_if_unordered x y (writes x (inl refl)) (writes y (inr behind)) (r.0 y behind).0 (o.0 x older).0
        ]
      ] in
      let rest : xs ≡ ys = one_run_order xs ys r.1 o.1 (λ z i. writes z (inr i))
      (λ z i. elim (into z (inr i)) [ inl e ↦ absurd ((r.0 z i).1 (e ∙ sym heads)) | inr j ↦ j ])
      (λ z j. elim (from z (inr j)) [ inl e ↦ absurd ((o.0 z j).1 (e ∙ heads)) | inr i ↦ i ]) in
      ap (λ a. a ∷ xs) heads ∙ ap (λ l. y ∷ l) rest

  one_name : (s t : State) → Kept plan s → Kept plan t → ((p : ℕ) → s.done p ≡ t.done p) → s.names n ≡ t.names n
  one_name s t ks kt same =
      let v = ks.written n in
      let w = kt.written n in
      v.left
      ∙ ap (left_by plan n) (one_run_order v.calls w.calls v.as_run w.as_run
      (λ z i. let r = v.is_done z i in (ks.known.sound.live_done z r.0, r.1))
      (λ z i. let r = v.is_done z i in w.all z (let d = r.0 in let e = same z.proc in omega (arith, d, e)) r.1)
      (λ z i. let r = w.is_done z i in v.all z (let d = r.0 in let e = same z.proc in omega (arith, d, e)) r.1))
      ∙ sym w.left

pub one_state : OneState
one_state plan cut s t settled c d =
    let same : (p : ℕ) → s.done p ≡ t.done p = λ p. c.done p ∙ sym (d.done p) in
    let ks = reachable_kept plan settled s c.reached in
    let kt = reachable_kept plan settled t d.reached in
    let so_far = replies_are_plain plan s settled c.reached in
    let as_far = replies_are_plain plan t settled d.reached in
    state_path s t same (λ n. one_name plan settled n s t ks kt same)
    (λ p. so_far.replies p ∙ ap (λ k. take k ((plain_end plan).replies p)) (same p) ∙ sym (as_far.replies p))

-- t has one event of p more than s
abbrev HasOneMore : State → State → ℕ → Type 0
HasOneMore s t p = (t.done p ≡ suc (s.done p)) × ((q : ℕ) → (q ≡ p → ⊥) → t.done q ≡ s.done q)

-- Two such states, and one r to which a run from s comes before p's next event
module _ (plan : Plan) (settled : IsSettled plan) (s t : State) (p : ℕ) (sound_s : Sound plan s) (sound_t : Sound plan t) (more : HasOneMore s t p) where
  abbrev y : Event
  y = next_event s p

  known : Live plan y → (z : Event) → Before plan z y → IsDone s z
  known live_y z b =
      let one : t.done p ≡ suc (s.done p) = more.0 in
      let there : IsDone t z = chain_done plan t sound_t b (omega (arith, one)) in
      elim (cases_eq z.proc p) [
        | inr ne ↦ (let o = more.1 z.proc ne in omega (arith, there, o))
        | inl e ↦ (let at_p : t.done z.proc ≡ t.done p = ap t.done e in
            let here : s.done z.proc ≡ s.done p = ap s.done e in
            elim (cases_lt z.at (s.done p)) [
              | inl lt ↦ omega (arith, lt, here)
              | inr ge ↦ absurd (no_cycle live_y (subst (λ v. Before plan v y) (place_path z p (s.done p) e (omega (arith, there, at_p, one, ge))) b))
            ])
      ]

  module _ (u : List ℕ) (legal : IsInterleaving plan s u) (sound_r : Sound plan (run_from plan s u)) (not_yet : (run_from plan s u).done p ≡ s.done p) (live_y : Live plan y) where
    abbrev r : State
    r = run_from plan s u

    names_same : (n : ℕ) → calls_name plan n y (kind plan y) ≡ true → r.names n ≡ s.names n
    names_same n calls = names_on plan n u s sound_s legal (λ z now was writes. settled.no_name_race z y n (record {
      x_writes = writes;
      y_calls = calls;
      others = λ e. was (let a = ap r.done e in let b = ap s.done e in omega (arith, now, not_yet, a, b));
      not_once = λ once wait. was (known live_y z (edge (sound_r.live_done z now) (Announces n wait once) live_y));
      unordered = record {
        live_x = sound_r.live_done z now;
        live_y = live_y;
        not_before = λ b. was (known live_y z b);
        not_after = λ b. (let d = chain_done plan r sound_r b now in omega (arith, d, not_yet));
      };
    }))

    enabled_here : Answered plan s → Answered plan r → is_enabled plan r p ≡ true → is_enabled plan s p ≡ true
    enabled_here answered_s answered_r on =
        let same : next_event r p ≡ y = λ i. record { proc = p; at = not_yet i } in
        sym (may_same plan settled s r y (λ m. done_on plan u s m) (known live_y) (closed_cut sound_r) (omega (arith, not_yet)) live_y answered_s answered_r names_same (kind plan y) refl)
        ∙ subst (λ v. may_do plan r v (kind plan v) ≡ true) same on

pub one_event_between : OneEventBetween
one_event_between plan cut p s t settled c d =
    let done_t : t.done p ≡ suc (s.done p) = d.done p ∙ update_same cut p (suc (cut p)) ∙ ap suc (sym (c.done p)) in
    let others_t : (q : ℕ) → (q ≡ p → ⊥) → t.done q ≡ s.done q = λ q ne. d.done q ∙ update_other cut p (suc (cut p)) q ne ∙ sym (c.done q) in
    let to_end = to_plain_end plan settled s c.reached in
    let further : s.done p < (run_from plan s to_end.0).done p = (
    let up = (replies_are_plain plan t settled d.reached).done p in
    let there = ap (λ (v : State). v.done p) to_end.2 in
    omega (arith, up, there, done_t)) in
    let next = comes_to_next plan p to_end.0 s to_end.1 further in
    let reached_r = reached_on plan s next.0 c.reached next.1 in
    let sound_r = reachable_sound plan (run_from plan s next.0) reached_r in
    let same : next_event (run_from plan s next.0) p ≡ next_event s p = λ i. record { proc = p; at = next.2 i } in
    let live_y : Live plan (next_event s p) = subst (λ v. Live plan v) same (due plan (run_from plan s next.0) p sound_r next.3).is_live in
    let on = enabled_here plan settled s t p (reachable_sound plan s c.reached) (reachable_sound plan t d.reached) (done_t, others_t) next.0 next.1 sound_r next.2 live_y
    (reachable_known plan settled s c.reached).answered (reachable_known plan settled (run_from plan s next.0) reached_r).answered next.3 in
    (on, one_state plan (one_more cut p) (step plan s p) t settled (steps_move_cuts plan cut s p c on) d)
