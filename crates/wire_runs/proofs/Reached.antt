-- A sound cut of a settled plan is what some run has come to.
use Rattle.std.proofs.Common.{◌≡◌, ℕ, zero, suc, ◌<◌, ◌≤◌, List, [], ◌∷◌, length, Bool, true, false, nat_lt, ◌⊎◌, inl, inr, refl, sym, ap, ◌∙◌, subst, arith}
use Rattle.std.proofs.lemmas.Bool.{cond-false, cases_eq, cases_lt, cases_Bool, ltb-true, ltb-false, true≢false}
use Rattle.std.proofs.lemmas.Option.{slice_get_past}
use Rattle.wire_runs.specs.Plan.{Plan, kinds, process_kinds, event_count, process_count, Event}
use Rattle.wire_runs.specs.State.{State, start, next_event, IsDone}
use Rattle.wire_runs.specs.Step.{is_enabled, step, IsInterleaving, run_from}
use Rattle.wire_runs.specs.Order.{Edge, Live, live, Before, edge, further}
use Rattle.wire_runs.specs.Races.{IsSettled}
use Rattle.wire_runs.specs.Fate.{Waits, HasFate, dead, IsSoundCut}
use Rattle.wire_runs.specs.Laws.{HappensBefore, SoundIsReached}
use Rattle.wire_runs.proofs.Basics.{process_within}
use Rattle.wire_runs.proofs.Due.{ClosedCut, chain_in, done_same, done_other}
use Rattle.wire_runs.proofs.Length.{left_from, left_falls, left_at_start}
use Rattle.wire_runs.proofs.Histories.{before_live, same_process, joined}
use Rattle.wire_runs.proofs.Fates.{Kept, kept_start, kept_step, told_in, live_event}
use Rattle.wire_runs.proofs.HaveFates.{have_fates}

-- one of the first n numbers at which f holds
find : (f : ℕ → Bool) (n : ℕ) → ((i : ℕ) × (f i ≡ true)) ⊎ ((i : ℕ) → i < n → f i ≡ false)
find f zero = inr (λ i lt. absurd (omega (arith, lt)))
find f (suc n) = go (find f n)
  where
    go : ((i : ℕ) × (f i ≡ true)) ⊎ ((i : ℕ) → i < n → f i ≡ false) → ((i : ℕ) × (f i ≡ true)) ⊎ ((i : ℕ) → i < suc n → f i ≡ false)
    go (inl r) = inl r
    go (inr none) = elim (cases_Bool (f n)) [
      | inl t ↦ inl (n, t)
      | inr no_ ↦ inr (λ i lt. elim (cases_eq i n) [ inl e ↦ ap f e ∙ no_ | inr ne ↦ none i (omega (arith, lt, ne)) ])
    ]

module _ (plan : Plan) (settled : IsSettled plan) (marks : HappensBefore plan) (cut : ℕ → ℕ) (sound : IsSoundCut plan cut) where
  -- an event of the cut is live
  live_in : (x : Event) → x.at < cut x.proc → Live plan x
  live_in x d = elim (cases_Bool (marks.alive x)) [
    | inl t ↦ (marks.tells_live x).0 t
    | inr f ↦ absurd (sound.comes x d (dead (λ l. true≢false (sym ((marks.tells_live x).1 l) ∙ f)) refl))
  ]

  closed_in : ClosedCut plan cut
  closed_in = record { within = sound.within; all_live = live_in; closed = sound.closed }

  module _ (s : State) (k : Kept plan s) where
    -- a process that is enabled within the cut
    abbrev Onward : Type 0
    Onward = (q : ℕ) × (s.done q < cut q) × (is_enabled plan s q ≡ true)

    abbrev FromHere : Event → Type 0
    FromHere y = s.done y.proc ≡ y.at → y.at < cut y.proc → Onward

    record Down (y : Event) : Type 0 where
      earlier : (z : Event) → Before plan z y → FromHere z
      here : FromHere y

    earlier_down : {z y : Event} → Before plan z y → ((x : Event) → Edge plan x y → Down x) → FromHere z
    earlier_down (edge l e m) from = (from _ e).here
    earlier_down (further b e m) from = (from _ e).earlier _ b

    -- where all that is before it is done, it is enabled
    enabled_there : (p : ℕ) → s.done p < cut p → ((z : Event) → Before plan z (next_event s p) → IsDone s z) → is_enabled plan s p ≡ true
    enabled_there p lt known = elim (cases_Bool (is_enabled plan s p)) [
      | inl t ↦ t
      | inr f ↦ absurd (
          let h = have_fates plan settled marks (next_event s p) in
          let waits : h.0 ≡ Waits = told_in plan settled s k.known k.written (next_event s p) (omega arith) h.0 (live_in (next_event s p) lt) known h.1 ∙ cond-false _ _ _ f in
          sound.comes (next_event s p) lt (subst (λ v. HasFate plan (next_event s p) v) waits h.1))
    ]

    at_next : (y : Event) → s.done y.proc ≡ y.at → y ≡ next_event s y.proc
    at_next y e = λ t. record { proc = y.proc; at = sym e t }

    here_from : (y : Event) → ((z : Event) → Before plan z y → FromHere z) → FromHere y
    here_from y earlier e d = elim (find (λ p. marks.before (next_event s p) y) (process_count plan)) [
      | inl r ↦ (let b = (marks.tells_before (next_event s r.0) y).0 r.1 in earlier (next_event s r.0) b refl (chain_in closed_in b d))
      | inr none ↦ (
        y.proc,
        omega (arith, e, d),
        enabled_there y.proc (omega (arith, e, d)) (λ z b0.
            let b : Before plan z y = subst (λ v. Before plan z v) (sym (at_next y e)) b0 in
            elim (cases_lt z.at (s.done z.proc)) [
              | inl lt ↦ lt
              | inr ge ↦ absurd (
                  let w = next_event s z.proc in
                  let wb : Before plan w y = elim (cases_eq (s.done z.proc) z.at) [
                    | inl same ↦ subst (λ v. Before plan v y) (at_next z same) b
                    | inr ne ↦ joined (same_process plan w z (before_live b) refl (omega (arith, ge, ne))) b
                  ] in
                  let v = live_event plan z (before_live b) in
                  true≢false (sym ((marks.tells_before w y).1 wb) ∙ none z.proc (process_within plan z.proc z.at v.0 v.1)))
            ]),
      )
    ]

    down : {y : Event} → Live plan y → Down y
    down (live may from) = build _ (λ x e. down (from x e))
      where
        build : (y : Event) → ((x : Event) → Edge plan x y → Down x) → Down y
        build y from' = record { earlier = λ z b. earlier_down b from'; here = here_from y (λ z b. earlier_down b from') }

    onward : (p : ℕ) → s.done p < cut p → Onward
    onward p lt = (down (live_in (next_event s p) lt)).here refl lt

  past_end : (p : ℕ) → process_count plan ≤ p → event_count plan p ≡ 0
  unfolding event_count kinds
  past_end p ge = ap (λ o. length (process_kinds o)) (slice_get_past plan.processes p ge)

  abbrev Reaches : State → Type 0
  Reaches s = (w : List ℕ) × IsInterleaving plan s w × ((p : ℕ) → (run_from plan s w).done p ≡ cut p)

  -- where nobody is enabled within the cut, it is reached
  all_there : (s : State) → ((p : ℕ) → s.done p ≤ cut p) → ((i : ℕ) → i < process_count plan → nat_lt (s.done i) (cut i) ≡ false) → (p : ℕ) → s.done p ≡ cut p
  all_there s le none p = elim (cases_lt p (process_count plan)) [
    | inl lt ↦ (let a = ltb-false _ _ (none p lt) in let b = le p in omega (arith, a, b))
    | inr ge ↦ (let a = past_end p ge in let b = sound.within p in let c = le p in omega (arith, a, b, c))
  ]

  step_within : (s : State) (q : ℕ) → ((p : ℕ) → s.done p ≤ cut p) → s.done q < cut q → (p : ℕ) → (step plan s q).done p ≤ cut p
  step_within s q le lt p = elim (cases_eq p q) [
    | inl e ↦ subst (λ r. (step plan s q).done r ≤ cut r) (sym e) (let d = done_same plan s q in omega (arith, d, lt))
    | inr ne ↦ (let d = done_other plan s q p ne in let l = le p in omega (arith, d, l))
  ]

  reaches : (fuel : ℕ) (s : State) → Kept plan s → ((p : ℕ) → s.done p ≤ cut p) → left_from plan.processes s.done 0 ≤ fuel → Reaches s
  reaches zero s k le room = elim (find (λ p. nat_lt (s.done p) (cut p)) (process_count plan)) [
    | inr none ↦ ([], tt, all_there s le none)
    | inl r ↦ absurd (let o = onward s k r.0 (ltb-true _ _ r.1) in let f = left_falls plan s o.0 o.2 in omega (arith, f, room))
  ]
  reaches (suc fuel) s k le room = go (find (λ p. nat_lt (s.done p) (cut p)) (process_count plan)) (λ q h. reaches fuel (step plan s q) (kept_step plan settled s q k h))
    where
      go : ((i : ℕ) × (nat_lt (s.done i) (cut i) ≡ true)) ⊎ ((i : ℕ) → i < process_count plan → nat_lt (s.done i) (cut i) ≡ false) →
          ((q : ℕ) → is_enabled plan s q ≡ true → ((p : ℕ) → (step plan s q).done p ≤ cut p) → left_from plan.processes (step plan s q).done 0 ≤ fuel → Reaches (step plan s q)) → Reaches s
      go (inr none) rest = ([], tt, all_there s le none)
      go (inl r) rest =
          let o = onward s k r.0 (ltb-true _ _ r.1) in
          let f = left_falls plan s o.0 o.2 in
          let v = rest o.0 o.2 (step_within s o.0 le o.1) (omega (arith, f, room)) in
          (o.0 ∷ v.0, (o.2, v.1), v.2)

pub sound_is_reached : SoundIsReached
sound_is_reached plan cut settled marks sound =
    let r = reaches plan settled marks cut sound _ start (kept_start plan) (λ p. omega arith) (left_at_start plan.processes 0) in
    (run_from plan start r.0, (r.0, r.1, refl), r.2)
