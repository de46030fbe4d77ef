-- Where a process is enabled, its next event is live and its sources are done.
use Rattle.std.proofs.Common.{◌≡◌, ℕ, suc, ◌<◌, ◌≤◌, List, [], ◌∷◌, Bool, true, ◌==◌, Option, Some, None, is_some, ◌⊎◌, inl, inr, refl, sym, ap, ◌∙◌, subst, arith, eq-eqb, ne_eqb, eqb-true, leb-true}
use Rattle.std.proofs.Common.{le-leb}
use Rattle.std.proofs.lemmas.Bool.{cond-true, cond-false, cond_both, cases_eq, cases_lt, or_left, true≢false}
use Rattle.std.proofs.lemmas.Option.{same_Some}
use Rattle.wire_runs.specs.Plan.{Plan, Kind, Leave, Get, Publish, Unpublish, UnpublishAll, kind, event_count, same_node, Event}
use Rattle.wire_runs.specs.State.{State, start, next_event, next_kind, IsDone}
use Rattle.wire_runs.specs.Puts.{own, stored}
use Rattle.wire_runs.specs.Fences.{is_complete}
use Rattle.wire_runs.specs.Sight.{held, served, get_sees}
use Rattle.wire_runs.specs.Step.{may_do, is_seen, is_enabled, name_after, is_publisher, step, IsInterleaving, run_from, IsReachable}
use Rattle.wire_runs.specs.Order.{IsArrival, Edge, Follows, Meets, Feeds, Announces, may_come, Live, live, Before, edge, further}
use Rattle.wire_runs.specs.Races.{IsUnordered}
use Rattle.wire_runs.specs.Laws.{IsDue, EnabledIsDue}
use Rattle.wire_runs.proofs.Basics.{update_same, update_other, list_all_at_member, event_within, stored_stays, arrivals_rise, arrivals_step}
use Rattle.wire_runs.proofs.Lists.{list_all_weaker}

-- a cut with the sources of all that is in it, all of it live
pub record ClosedCut (plan : Plan) (cut : ℕ → ℕ) : Type 0 where
  pub within : (p : ℕ) → cut p ≤ event_count plan p
  pub all_live : (x : Event) → x.at < cut x.proc → Live plan x
  pub closed : (x y : Event) → Edge plan x y → y.at < cut y.proc → x.at < cut x.proc

pub chain_in : {plan : Plan} {cut : ℕ → ℕ} {x y : Event} → ClosedCut plan cut → Before plan x y → y.at < cut y.proc → x.at < cut x.proc
chain_in c (edge l e m) d = c.closed _ _ e d
chain_in c (further b e m) d = chain_in c b (c.closed _ _ e d)

pub live_may : {plan : Plan} {y : Event} → Live plan y → may_come plan y (kind plan y) ≡ true
live_may (live may from) = may

-- what may come is an event of the plan
pub coming_event : (plan : Plan) (y : Event) (o : Option Kind) → may_come plan y o ≡ true → (e : Kind) × (o ≡ Some e)
coming_event plan y None h = absurd (true≢false (sym h))
coming_event plan y (Some e) h = (e, refl)

pub live_source : {plan : Plan} {x y : Event} → Live plan y → Edge plan x y → Live plan x
live_source (live may from) e = from _ e

-- what each state of a run keeps
pub record Sound (plan : Plan) (s : State) : Type 0 where
  pub within : (p : ℕ) → s.done p ≤ event_count plan p
  pub named : (n : ℕ) (x : Event) → s.names n ≡ Some x → (kind plan x ≡ Some (Publish n)) × IsDone s x
  pub live_done : (x : Event) → IsDone s x → Live plan x
  pub closed : (x y : Event) → Edge plan x y → IsDone s y → IsDone s x

pub held_seen : (o : Option ℕ) → is_seen (held o) ≡ true → is_some o ≡ true
held_seen None h = h
held_seen (Some put) h = refl

pub served_seen : (plan : Plan) (p : ℕ) (same : Bool) (o : Option ℕ) → is_seen (served plan p same o) ≡ true → is_some o ≡ true
served_seen plan p same None h = h
served_seen plan p same (Some put) h = refl

-- a get of another's key that is enabled finds it stored
pub other_seen : (plan : Plan) (cut : ℕ → ℕ) (q i p key : ℕ) → (q ≡ p → ⊥) → is_seen (get_sees plan cut q i p key) ≡ true → is_some (stored plan p key (cut p)) ≡ true
other_seen plan cut q i p key ne h =
    let e : get_sees plan cut q i p key ≡ served plan p (same_node plan p q) (stored plan p key (cut p)) = cond-false _ _ _ (ne_eqb q p ne) in
    served_seen plan p _ _ (subst (λ v. is_seen v ≡ true) e h)

own_seen : (plan : Plan) (cut : ℕ → ℕ) (q i p key : ℕ) → q ≡ p → is_seen (get_sees plan cut q i p key) ≡ true → is_some (own plan p key i) ≡ true
own_seen plan cut q i p key eq h =
    let e : get_sees plan cut q i p key ≡ held (own plan p key i) = cond-true _ _ _ (eq-eqb q p eq) in
    held_seen _ (subst (λ v. is_seen v ≡ true) e h)

pub has_event : (plan : Plan) (s : State) (p : ℕ) (o : Option Kind) → next_kind plan s p ≡ o → may_do plan s (next_event s p) o ≡ true → (e : Kind) × (next_kind plan s p ≡ Some e)
has_event plan s p None e h = absurd (true≢false (sym h))
has_event plan s p (Some v) e h = (v, e)

-- an event that can happen may come
comes : (plan : Plan) (s : State) (p : ℕ) (o : Option Kind) → Sound plan s → may_do plan s (next_event s p) o ≡ true → may_come plan (next_event s p) o ≡ true
comes plan s p None k h = h
comes plan s p (Some (Get owner key)) k h =
    cond_both (p == owner) _ _ (λ b. b ≡ true)
    (λ t. own_seen plan s.done p (s.done p) owner key (eqb-true p owner t) h)
    (λ f. or_left _ _ (stored_stays plan owner key (s.done owner) (event_count plan owner) (k.within owner)
    (other_seen plan s.done p (s.done p) owner key (λ e. true≢false (sym (eq-eqb p owner e) ∙ f)) h)))
comes plan s p (Some (Leave members)) k h =
    list_all_weaker _ _ members (λ m t. le-leb _ _ (let a = leb-true _ _ t in let b = arrivals_rise plan m members (s.done m) (event_count plan m) (k.within m) in omega (arith, a, b))) h
comes plan s p (Some _) k h = refl

-- each arrival at a complete fence has happened
pub arrived : (plan : Plan) (cut : ℕ → ℕ) (members : List ℕ) (j : ℕ) (x : Event) → is_complete plan cut members j ≡ true → IsArrival plan members j x → x.at < cut x.proc
arrived plan cut members j x c a =
    let l = leb-true _ _ (list_all_at_member _ members x.proc c a.member) in
    let grown = arrivals_step plan x.proc members a.collect x.at a.is in
    elim (cases_lt x.at (cut x.proc)) [ inl lt ↦ lt | inr ge ↦ absurd (let r = arrivals_rise plan x.proc members (cut x.proc) x.at ge in let n = a.nth in omega (arith, l, grown, r, n)) ]

-- its sources have happened
sources : (plan : Plan) (s : State) (p : ℕ) → Sound plan s → is_enabled plan s p ≡ true → (x : Event) → Edge plan x (next_event s p) → IsDone s x
sources plan s p k h x (Follows e n) = rw e (omega (arith, n))
sources plan s p k h x (Meets members is a) = arrived plan s.done members _ x (rw is at h) a
sources plan s p k h x (Feeds key is other once stores) =
    let seen : is_seen (get_sees plan s.done p (s.done p) x.proc key) ≡ true = rw is at h in
    let some = other_seen plan s.done p (s.done p) x.proc key (λ e. other (sym e)) seen in
    elim (cases_lt x.at (s.done x.proc)) [ inl lt ↦ lt | inr ge ↦ absurd (true≢false (sym (stored_stays plan x.proc key (s.done x.proc) x.at ge some) ∙ ap is_some stores.nothing_before)) ]
sources plan s p k h x (Announces name is once) =
    let some : is_some (s.names name) ≡ true = rw is at h in
    go (s.names name) refl some
  where
    go : (o : Option Event) → s.names name ≡ o → is_some o ≡ true → IsDone s x
    go None e t = absurd (true≢false (sym t))
    go (Some z) e t = let r = k.named name z e in subst (λ v. IsDone s v) (once.only z r.0) r.1

-- an enabled event is live
now_live : (plan : Plan) (s : State) (p : ℕ) → Sound plan s → is_enabled plan s p ≡ true → Live plan (next_event s p)
now_live plan s p k h = live (comes plan s p (next_kind plan s p) k h) (λ x e. k.live_done x (sources plan s p k h x e))

-- what one step does to what is done
pub done_same : (plan : Plan) (s : State) (p : ℕ) → (step plan s p).done p ≡ suc (s.done p)
done_same plan s p = update_same s.done p (suc (s.done p))

pub done_other : (plan : Plan) (s : State) (p q : ℕ) → (q ≡ p → ⊥) → (step plan s p).done q ≡ s.done q
done_other plan s p q ne = update_other s.done p (suc (s.done p)) q ne

pub done_kept : (plan : Plan) (s : State) (p : ℕ) (x : Event) → IsDone s x → IsDone (step plan s p) x
done_kept plan s p x h = elim (cases_eq x.proc p) [
  | inl e ↦ let d : (step plan s p).done x.proc ≡ suc (s.done x.proc) = rw e (done_same plan s p) in omega (arith, d, h)
  | inr ne ↦ let d = done_other plan s p x.proc ne in omega (arith, d, h)
]

pub done_up : (plan : Plan) (s : State) (p q : ℕ) → s.done q ≤ (step plan s p).done q
done_up plan s p q = elim (cases_eq q p) [
  | inl e ↦ let d : (step plan s p).done q ≡ suc (s.done q) = rw e (done_same plan s p) in omega (arith, d)
  | inr ne ↦ let d = done_other plan s p q ne in omega (arith, d)
]

pub done_now : (plan : Plan) (s : State) (p : ℕ) → IsDone (step plan s p) (next_event s p)
done_now plan s p = let d = done_same plan s p in omega (arith, d)

pub place_path : (x : Event) (p i : ℕ) → x.proc ≡ p → x.at ≡ i → x ≡ record { proc = p; at = i }
place_path x p i a b = λ t. record { proc = a t; at = b t }

-- what is done after a step was done, or is the step's event
pub done_was : (plan : Plan) (s : State) (p : ℕ) (x : Event) → IsDone (step plan s p) x → IsDone s x ⊎ (x ≡ next_event s p)
done_was plan s p x h = elim (cases_eq x.proc p) [
  | inl e ↦
      let d : (step plan s p).done x.proc ≡ suc (s.done p) = rw e (done_same plan s p) in
      let same : s.done x.proc ≡ s.done p = ap s.done e in
      elim (cases_lt x.at (s.done p)) [
        | inl lt ↦ inl (omega (arith, lt, same))
        | inr ge ↦ inr (place_path x p (s.done p) e (omega (arith, h, d, ge)))
      ]
  | inr ne ↦ let d = done_other plan s p x.proc ne in inl (omega (arith, d, h))
]

-- a name that stands after an event stood before it, or the event publishes it
pub named_after : (before : Option Event) (y : Event) (o : Option Kind) (n : ℕ) (x : Event) → name_after before y o n ≡ Some x → (before ≡ Some x) ⊎ ((x ≡ y) × (o ≡ Some (Publish n)))
named_after before y (Some (Publish m)) n x =
    cond_both (m == n) _ _ (λ o. o ≡ Some x → (before ≡ Some x) ⊎ ((x ≡ y) × (◌≡◌ {A = Option Kind} (Some (Publish m)) (Some (Publish n)))))
    (λ t. cond_both (is_some before) _ _ (λ o. o ≡ Some x → (before ≡ Some x) ⊎ ((x ≡ y) × (◌≡◌ {A = Option Kind} (Some (Publish m)) (Some (Publish n)))))
    (λ _ h. inl h)
    (λ _ h. inr (same_Some _ _ (sym h), ap (λ k. Some (Publish k)) (eqb-true m n t))))
    (λ _ h. inl h)
named_after before y (Some (Unpublish m)) n x =
    cond_both (m == n) _ _ (λ o. o ≡ Some x → (before ≡ Some x) ⊎ ((x ≡ y) × (◌≡◌ {A = Option Kind} (Some (Unpublish m)) (Some (Publish n)))))
    (λ t. cond_both (is_publisher y.proc before) _ _ (λ o. o ≡ Some x → (before ≡ Some x) ⊎ ((x ≡ y) × (◌≡◌ {A = Option Kind} (Some (Unpublish m)) (Some (Publish n)))))
    (λ _ h. cc)
    (λ _ h. inl h))
    (λ _ h. inl h)
named_after before y (Some UnpublishAll) n x =
    cond_both (is_publisher y.proc before) _ _ (λ o. o ≡ Some x → (before ≡ Some x) ⊎ ((x ≡ y) × (◌≡◌ {A = Option Kind} (Some UnpublishAll) (Some (Publish n)))))
    (λ _ h. cc)
    (λ _ h. inl h)
named_after before y _ n x = λ h. inl h

pub sound_start : (plan : Plan) → Sound plan start
sound_start plan = record {
  within = λ p. omega arith;
  named = λ n x h. cc;
  live_done = λ x h. absurd (omega (arith, h));
  closed = λ x y e h. absurd (omega (arith, h));
}

pub sound_step : (plan : Plan) (s : State) (p : ℕ) → Sound plan s → is_enabled plan s p ≡ true → Sound plan (step plan s p)
sound_step plan s p k h = record {
  within = λ q. elim (cases_eq q p) [
    | inl e ↦ let v = has_event plan s p (next_kind plan s p) refl h in
        let lt = event_within plan p (s.done p) v.0 v.1 in
        let d = done_same plan s p in
        subst (λ r. (step plan s p).done r ≤ event_count plan r) (sym e) (omega (arith, lt, d))
    | inr ne ↦ let d = done_other plan s p q ne in let w = k.within q in omega (arith, d, w)
  ];
  named = λ n x e. elim (named_after (s.names n) (next_event s p) (next_kind plan s p) n x e) [
    | inl was ↦ let r = k.named n x was in (r.0, done_kept plan s p x r.1)
    | inr b ↦ (subst (λ z. kind plan z ≡ Some (Publish n)) (sym b.0) b.1, subst (λ z. IsDone (step plan s p) z) (sym b.0) (done_now plan s p))
  ];
  live_done = λ x d. elim (done_was plan s p x d) [
    | inl was ↦ k.live_done x was
    | inr e ↦ subst (λ z. Live plan z) (sym e) (now_live plan s p k h)
  ];
  closed = λ x y e d. elim (done_was plan s p y d) [
    | inl was ↦ done_kept plan s p x (k.closed x y e was)
    | inr is ↦ done_kept plan s p x (sources plan s p k h x (subst (λ z. Edge plan x z) is e))
  ];
}

sound_run : (plan : Plan) (w : List ℕ) (s : State) → Sound plan s → IsInterleaving plan s w → Sound plan (run_from plan s w)
sound_run plan [] s k h = k
sound_run plan (p ∷ w) s k h = sound_run plan w (step plan s p) (sound_step plan s p k h.0) h.1

pub reachable_sound : (plan : Plan) (s : State) → IsReachable plan s → Sound plan s
reachable_sound plan s r = subst (λ t. Sound plan t) r.2 (sound_run plan r.0 start (sound_start plan) r.1)

-- whatever a chain leads from to something that is done is done
pub chain_done : (plan : Plan) (s : State) {x y : Event} → Sound plan s → Before plan x y → IsDone s y → IsDone s x
chain_done plan s k (edge l e m) d = k.closed _ _ e d
chain_done plan s k (further b e m) d = chain_done plan s k b (k.closed _ _ e d)

pub chain_to_next : (plan : Plan) (s : State) {x y : Event} → Sound plan s → ((z : Event) → Edge plan z y → IsDone s z) → Before plan x y → IsDone s x
chain_to_next plan s k src (edge l e m) = src _ e
chain_to_next plan s k src (further b e m) = chain_done plan s k b (src _ e)

pub due : (plan : Plan) (s : State) (p : ℕ) → Sound plan s → is_enabled plan s p ≡ true → IsDue plan s (next_event s p)
due plan s p k h = record {
  is_live = now_live plan s p k h;
  sources_done = sources plan s p k h;
  earlier_done = λ x b. chain_to_next plan s k (sources plan s p k h) b;
}

-- an event that can happen is before no other that may
pub never_before : (plan : Plan) (s : State) (p q : ℕ) → Sound plan s → is_enabled plan s q ≡ true → Before plan (next_event s p) (next_event s q) → ⊥
never_before plan s p q k hq b = let d = (due plan s q k hq).earlier_done _ b in omega (arith, d)

pub unordered : (plan : Plan) (s : State) (p q : ℕ) → Sound plan s → is_enabled plan s p ≡ true → is_enabled plan s q ≡ true → IsUnordered plan (next_event s p) (next_event s q)
unordered plan s p q k hp hq = record {
  live_x = (due plan s p k hp).is_live;
  live_y = (due plan s q k hq).is_live;
  not_before = never_before plan s p q k hq;
  not_after = never_before plan s q p k hp;
}

-- there is room for the next event
pub room : (plan : Plan) (s : State) (p : ℕ) → Sound plan s → is_enabled plan s p ≡ true → suc (s.done p) ≤ event_count plan p
room plan s p k h = let w = (sound_step plan s p k h).within p in let d = done_same plan s p in omega (arith, w, d)

pub closed_cut : {plan : Plan} {s : State} → Sound plan s → ClosedCut plan s.done
closed_cut k = record { within = k.within; all_live = k.live_done; closed = k.closed }

pub enabled_is_due : EnabledIsDue
enabled_is_due plan s p r h = due plan s p (reachable_sound plan s r) h
