-- What gets see in the past of an event of a settled plan.
use Rattle.std.proofs.Common.{◌≡◌, ◌∙◌, ap, refl, sym, subst, ℕ, suc, ◌<◌, ◌≤◌, Bool, true, false, Option, Some, None, is_some, arith, inl, inr, eq-eqb, ne_eqb, leb-true}
use Rattle.std.proofs.lemmas.Bool.{cond-true, cond-false, cases_lt, cases_Bool, and_from, and_parts, lt-ltb, le-ltb, or_cases, true≢false}
use Rattle.wire_types.specs.declared.Reply.{Reply}
use Rattle.wire_runs.specs.Plan.{Plan, Event, Get, kind, event_count, node_of, same_node, admits}
use Rattle.std.proofs.lemmas.Option.{same_Some}
use Rattle.wire_runs.specs.State.{State}
use Rattle.wire_runs.specs.Puts.{own, stored, put_count, scope_of}
use Rattle.wire_runs.specs.Fences.{arrivals}
use Rattle.wire_runs.specs.Sight.{Nothing, Shown, held, served, for_others, has_brought, delivered, greater, kept, brought, get_sees}
use Rattle.wire_runs.specs.Step.{is_seen}
use Rattle.wire_runs.specs.Order.{IsArrival, Stores, may_come, Live, Before}
use Rattle.wire_runs.specs.Races.{Delivery, ByFence, ByGet, IsOf, Delivers, ComesSurely, IsPutOnce, IsSettled}
use Rattle.wire_plan.specs.Index.{IsFirstPut}
use Rattle.wire_runs.proofs.Basics.{event_within, stored_stays}
use Rattle.wire_runs.proofs.Due.{ClosedCut, arrived, live_may, live_source}
use Rattle.wire_runs.proofs.Histories.{before_live, prepend, no_cycle}
use Rattle.wire_runs.proofs.Puts.{put_once, first_stores}
use Rattle.wire_runs.proofs.Brought.{Bringer, bringer, delivered_from, complete_more, complete_if_arrived, get_ready}
use Rattle.wire_runs.proofs.Fates.{live_event}
use Rattle.wire_runs.proofs.Getters.{greater_from, greater_left, greater_right, Getter, getter, kept_some, answered_value, get_brought}
use Rattle.wire_plan.proofs.KeyFacts.{put_exactly, own_first, stored_first, never_put, never_put_stored}
use Rattle.wire_plan.proofs.KeyRows.{none_or_some}
use Rattle.wire_fates.specs.Pasts.{HasBefore, AreGot, GivesSight, GivesGet, GivesGetNow, GivesServed, GivesBrought}

some_is : (o : Option ℕ) (i : ℕ) → is_some o ≡ true → ((v : ℕ) → o ≡ Some v → v ≡ i) → o ≡ Some i
some_is None i h only = absurd (true≢false (sym h))
some_is (Some v) i h only = ap Some (only v refl)

-- the past of a live event is a closed cut
pub before_closed : (plan : Plan) (y : Event) (s : State) → HasBefore plan y s → ClosedCut plan s.done
before_closed plan y s cut = record {
  within = λ p. elim (cases_lt (event_count plan p) (s.done p)) [
    | inr le ↦ le
    | inl lt ↦ absurd (
        let x : Event = record { proc = p; at = event_count plan p } in
        let v = live_event plan x (before_live ((cut x).0 lt)) in
        let w = event_within plan p (event_count plan p) v.0 v.1 in
        omega (arith, w))
  ];
  all_live = λ x d. before_live ((cut x).0 d);
  closed = λ x z e d. (let b = (cut z).0 d in (cut x).1 (prepend (live_source (before_live b) e) e b));
}

pub before_not_yet : (plan : Plan) (y : Event) (s : State) → Live plan y → HasBefore plan y s → s.done y.proc ≤ y.at
before_not_yet plan y s l cut = elim (cases_lt y.at (s.done y.proc)) [
  | inr le ↦ le
  | inl lt ↦ absurd (no_cycle l ((cut y).0 lt))
]

module _ (plan : Plan) (settled : IsSettled plan) (x : Event) (key : ℕ) (first : IsFirstPut plan x key) where
  -- a first put is the only one
  pub once : IsPutOnce plan x.proc key
  once = put_once plan settled x.proc key (event_count plan x.proc) (put_exactly plan x.proc key x.at (event_count plan x.proc) first
      ∙ lt-ltb x.at (event_count plan x.proc) (event_within plan x.proc x.at _ first.is))

  own_after : (n : ℕ) → x.at < n → own plan x.proc key n ≡ Some x.at
  own_after n lt = some_is (own plan x.proc key n) x.at (put_exactly plan x.proc key x.at n first ∙ lt-ltb x.at n lt) (λ v e. own_first plan x.proc key x.at n v once first e)

  own_before : (n : ℕ) → n ≤ x.at → own plan x.proc key n ≡ None
  own_before n le = none_or_some (own plan x.proc key n) (λ t. true≢false (sym t ∙ put_exactly plan x.proc key x.at n first ∙ le-ltb x.at n le))

  pub stored_is : (n : ℕ) → is_some (stored plan x.proc key n) ≡ true → stored plan x.proc key n ≡ Some x.at
  stored_is n h = some_is (stored plan x.proc key n) x.at h (λ v e. stored_first plan x.proc key x.at n v once first e)

  -- one's own key, after its put and before it
  pub own_shown : (n : ℕ) (reply : Reply) → x.at < n → GivesSight plan x.proc (Shown x.at) reply → GivesSight plan x.proc (held (own plan x.proc key n)) reply
  own_shown n reply lt = subst (λ o. GivesSight plan x.proc (held o) reply) (sym (own_after n lt))

  pub own_hidden : (n : ℕ) (reply : Reply) → n ≤ x.at → GivesSight plan x.proc Nothing reply → GivesSight plan x.proc (held (own plan x.proc key n)) reply
  own_hidden n reply le = subst (λ o. GivesSight plan x.proc (held o) reply) (sym (own_before n le))

  -- on the owner's node: a commit that is before the event has stored it
  pub served_after : (y c : Event) (reply : Reply) → c.proc ≡ x.proc → Stores plan c key → Before plan c y → GivesSight plan x.proc (served plan x.proc true (Some x.at)) reply →
      GivesServed plan y x.proc key reply
  served_after y c reply same stores before g s cut =
      let c' : Event = record { proc = x.proc; at = c.at } in
      let is : c ≡ c' = λ t. record { proc = same t; at = c.at } in
      let st : Stores plan c' key = subst (λ z. Stores plan z key) is stores in
      let done : c.at < s.done x.proc = subst (λ z. z.at < s.done z.proc) is ((cut c).1 before) in
      subst (λ o. GivesSight plan x.proc (served plan x.proc true o) reply)
      (sym (stored_is (s.done x.proc) (stored_stays plan x.proc key (suc c.at) (s.done x.proc) (omega (arith, done)) st.something_after))) g

  -- and where that commit isn't before the event, nothing is stored
  pub served_before : (y c : Event) (reply : Reply) → c.proc ≡ x.proc → Stores plan c key → (Before plan c y → ⊥) → GivesSight plan x.proc Nothing reply → GivesServed plan y x.proc key reply
  served_before y c reply same stores not g s cut =
      let c' : Event = record { proc = x.proc; at = c.at } in
      let is : c ≡ c' = λ t. record { proc = same t; at = c.at } in
      let st : Stores plan c' key = subst (λ z. Stores plan z key) is stores in
      let none : stored plan x.proc key (s.done x.proc) ≡ None = none_or_some (stored plan x.proc key (s.done x.proc)) (λ h. elim (cases_lt c.at (s.done x.proc)) [
        | inl lt ↦ not ((cut c).0 (subst (λ z. z.at < s.done z.proc) (sym is) lt))
        | inr ge ↦ true≢false (sym (stored_stays plan x.proc key (s.done x.proc) c.at ge h) ∙ ap is_some st.nothing_before)
      ]) in
      subst (λ o. GivesSight plan x.proc (served plan x.proc true o) reply) (sym none) g

  pub served_never : (y : Event) (reply : Reply) → ((c : Event) → c.proc ≡ x.proc → Stores plan c key → ⊥) → GivesSight plan x.proc Nothing reply → GivesServed plan y x.proc key reply
  served_never y reply never g s cut =
      let none : stored plan x.proc key (s.done x.proc) ≡ None = none_or_some (stored plan x.proc key (s.done x.proc)) (λ h.
      let c = first_stores plan x.proc key (s.done x.proc) h in
      never (record { proc = x.proc; at = c.0 }) refl c.2) in
      subst (λ o. GivesSight plan x.proc (served plan x.proc true o) reply) (sym none) g

  -- a get of another's key that waits finds it stored
  pub get_shown : (y : Event) (reply : Reply) → Live plan y → kind plan y ≡ Some (Get x.proc key) → (y.proc ≡ x.proc → ⊥) →
      GivesSight plan x.proc (served plan x.proc (same_node plan x.proc y.proc) (Some x.at)) reply → GivesGet plan y x.proc key reply
  get_shown y reply l is other g s cut =
      let some = get_ready plan settled s.done s.done y (λ m. omega arith) (λ z b. (cut z).1 b) (before_closed plan y s cut) (before_not_yet plan y s l cut) l x.proc key is other in
      let sees : get_sees plan s.done y.proc y.at x.proc key ≡ served plan x.proc (same_node plan x.proc y.proc) (Some x.at) =
      cond-false _ _ _ (ne_eqb y.proc x.proc other) ∙ ap (served plan x.proc (same_node plan x.proc y.proc)) (stored_is (s.done x.proc) some) in
      (subst (λ v. is_seen v ≡ true) (sym sees) (served_is_seen (same_node plan x.proc y.proc)), subst (λ v. GivesSight plan x.proc v reply) (sym sees) g)
    where
      served_is_seen : (same : Bool) → is_seen (served plan x.proc same (Some x.at)) ≡ true
      served_is_seen same = elim (cases_Bool (admits (scope_of plan x.proc x.at) same)) [
        | inl t ↦ ap is_seen (cond-true _ _ _ t)
        | inr f ↦ ap is_seen (cond-false _ _ _ f)
      ]

  module _ (y : Event) (away : same_node plan x.proc y.proc ≡ false) (s : State) (cut : HasBefore plan y s) (got : AreGot plan s) where
    apart : node_of plan x.proc ≡ node_of plan y.proc → ⊥
    apart e = true≢false (sym (eq-eqb _ _ e) ∙ away)

    -- what came by a fence
    by_fence : (u : ℕ) → for_others plan x.proc (delivered plan s.done x.proc (node_of plan y.proc) key (event_count plan x.proc)) ≡ Some u →
        (delivered plan s.done x.proc (node_of plan y.proc) key (event_count plan x.proc) ≡ Some u) × (admits (scope_of plan x.proc u) false ≡ true)
    by_fence u = go (delivered plan s.done x.proc (node_of plan y.proc) key (event_count plan x.proc))
      where
        go : (o : Option ℕ) → for_others plan x.proc o ≡ Some u → (o ≡ Some u) × (admits (scope_of plan x.proc u) false ≡ true)
        go None h = absurd (true≢false (sym (ap is_some h)))
        go (Some v) h = elim (cases_Bool (admits (scope_of plan x.proc v) false)) [
          | inl a ↦
              (let e : v ≡ u = same_Some _ _ (sym (cond-true _ _ _ a) ∙ h) in
              (ap Some e, subst (λ i. admits (scope_of plan x.proc i) false ≡ true) e a))
          | inr f ↦ absurd (true≢false (sym (ap is_some h) ∙ ap is_some (cond-false _ _ _ f)))
        ]

    -- whatever came is the one put
    came_first : (u : ℕ) → brought plan s x.proc key (node_of plan y.proc) ≡ Some u → u ≡ x.at
    came_first u h = elim (greater_from _ _ u h) [
      | inl e ↦
          (let b = bringer plan s.done x.proc (node_of plan y.proc) key (event_count plan x.proc) u (by_fence u e).0 in
          stored_first plan x.proc key x.at b.at u once first b.stored_is)
      | inr e ↦
          (let g = getter plan s x.proc key (node_of plan y.proc) u e in
          stored_first plan x.proc key x.at (event_count plan x.proc) u once first (answered_value plan s got x.proc key (node_of plan y.proc) u apart g.1).0)
    ]

    -- what a delivery that surely comes first has brought
    came_some : (d : Delivery) → Delivers plan x.proc key (node_of plan y.proc) d → ((z : Event) → IsOf plan d z → Before plan z y) →
        is_some (brought plan s x.proc key (node_of plan y.proc)) ≡ true
    came_some (ByFence members j) delivers before =
        let d = delivers.brings_it in
        let complete_now = complete_if_arrived plan s.done members j d.away.full (λ z a. (cut z).1 (before z a)) in
        let b : Bringer plan s.done x.proc (node_of plan y.proc) key (event_count plan x.proc) d.away.put = record {
          at = d.away.at;
          members = members;
          collect = d.away.arrival.collect;
          is = d.away.arrival.is;
          brings_it = subst (λ i. has_brought plan s.done x.proc (node_of plan y.proc) members i ≡ true) (sym d.away.arrival.nth)
              (and_from _ _ complete_now (and_from _ _ d.away.collecting (and_from _ _ d.away.member d.reaches)));
          stored_is = d.away.committed;
          below = event_within plan x.proc d.away.at _ d.away.arrival.is;
        } in
        greater_left _ (kept plan s x.proc key (node_of plan y.proc))
        (ap is_some (ap (for_others plan x.proc) (delivered_from plan settled s.done x.proc (node_of plan y.proc) key (event_count plan x.proc) d.away.put b) ∙ cond-true _ _ _ d.away.admitted))
    came_some (ByGet get) delivers before =
        let d = delivers.brings_it in
        greater_right (for_others plan x.proc (delivered plan s.done x.proc (node_of plan y.proc) key (event_count plan x.proc))) _
        (kept_some plan s x.proc key (node_of plan y.proc) d.away.put d.away.keeps (get_brought plan s got x.proc key (node_of plan y.proc) apart get d ((cut get).1 (before get refl))))

    came_sure : ComesSurely plan x.proc key (node_of plan y.proc) y → brought plan s x.proc key (node_of plan y.proc) ≡ Some x.at
    came_sure sure = some_is (brought plan s x.proc key (node_of plan y.proc)) x.at (came_some sure.delivery sure.delivers sure.all_before) came_first

    pub brought_sure : (reply : Reply) → ComesSurely plan x.proc key (node_of plan y.proc) y → GivesSight plan x.proc (Shown x.at) reply →
        GivesSight plan x.proc (held (brought plan s x.proc key (node_of plan y.proc))) reply
    brought_sure reply sure = subst (λ o. GivesSight plan x.proc (held o) reply) (sym (came_sure sure))

    -- what was brought was brought by a delivery that surely comes first
    sure_if_fence : (v : ℕ) → Bringer plan s.done x.proc (node_of plan y.proc) key (event_count plan x.proc) v → admits (scope_of plan x.proc v) false ≡ true →
        ComesSurely plan x.proc key (node_of plan y.proc) y
    sure_if_fence v b a =
        let j = arrivals plan x.proc b.members (suc b.at) in
        let p = and_parts _ _ b.brings_it in
        let q = and_parts _ _ p.1 in
        let r = and_parts _ _ q.1 in
        let there : (z : Event) → IsArrival plan b.members j z → Before plan z y = λ z a. (cut z).0 (arrived plan s.done b.members j z p.0 a) in
        record {
          delivery = ByFence b.members j;
          delivers = record {
            brings_it = record {
              away = record {
                full = complete_more plan s.done (event_count plan) b.members j (before_closed plan y s cut).within p.0;
                collecting = q.0;
                member = r.0;
                at = b.at;
                put = v;
                arrival = record { collect = b.collect; is = b.is; member = r.0; nth = refl };
                committed = b.stored_is;
                admitted = a;
              };
              reaches = r.1;
            };
            all_live = λ z a. before_live (there z a);
          };
          all_before = there;
        }

    sure_if_got : (u : ℕ) → plan.keep ≡ true → Getter plan s x.proc key (node_of plan y.proc) u → ComesSurely plan x.proc key (node_of plan y.proc) y
    sure_if_got u keeps g =
        let v = answered_value plan s got x.proc key (node_of plan y.proc) u apart g in
        let before = (cut g.get).0 g.is_done in
        record {
          delivery = ByGet g.get;
          delivers = record {
            brings_it = record { away = record { keeps = keeps; is = g.is; put = u; committed = v.0; admitted = v.1 }; there = g.there };
            all_live = λ z e. subst (Live plan) (sym e) (before_live before);
          };
          all_before = λ z e. subst (λ w. Before plan w y) (sym e) before;
        }

    sure_if_came : (u : ℕ) → brought plan s x.proc key (node_of plan y.proc) ≡ Some u → ComesSurely plan x.proc key (node_of plan y.proc) y
    sure_if_came u h = elim (greater_from _ _ u h) [
      | inl e ↦
          (let f = by_fence u e in
          sure_if_fence u (bringer plan s.done x.proc (node_of plan y.proc) key (event_count plan x.proc) u f.0) f.1)
      | inr e ↦ (let g = getter plan s x.proc key (node_of plan y.proc) u e in sure_if_got u g.0 g.1)
    ]

    pub brought_unsure : (reply : Reply) → (ComesSurely plan x.proc key (node_of plan y.proc) y → ⊥) → GivesSight plan x.proc Nothing reply →
        GivesSight plan x.proc (held (brought plan s x.proc key (node_of plan y.proc))) reply
    brought_unsure reply not = go (brought plan s x.proc key (node_of plan y.proc)) refl
      where
        go : (o : Option ℕ) → brought plan s x.proc key (node_of plan y.proc) ≡ o → GivesSight plan x.proc Nothing reply →
            GivesSight plan x.proc (held (brought plan s x.proc key (node_of plan y.proc))) reply
        go None e g = subst (λ o. GivesSight plan x.proc (held o) reply) (sym e) g
        go (Some u) e g = absurd (not (sure_if_came u e))

none_delivered : (plan : Plan) (s : State) (p key node : ℕ) → put_count plan p key (event_count plan p) ≡ 0 → delivered plan s.done p node key (event_count plan p) ≡ None
none_delivered plan s p key node never = none_or_some (delivered plan s.done p node key (event_count plan p)) (λ h. go (delivered plan s.done p node key (event_count plan p)) refl h)
  where
    go : (o : Option ℕ) → delivered plan s.done p node key (event_count plan p) ≡ o → is_some (delivered plan s.done p node key (event_count plan p)) ≡ true → ⊥
    go None e h = true≢false (sym h ∙ ap is_some e)
    go (Some u) e h =
        let b = bringer plan s.done p node key (event_count plan p) u e in
        true≢false (sym (ap is_some b.stored_is) ∙ ap is_some (never_put_stored plan p key b.at never))

-- nothing comes to another node of a key that is never put
none_brought : (plan : Plan) (s : State) → AreGot plan s → (p key node : ℕ) → (node_of plan p ≡ node → ⊥) → put_count plan p key (event_count plan p) ≡ 0 → brought plan s p key node ≡ None
none_brought plan s got p key node apart never =
    ap (λ o. greater (for_others plan p o) (kept plan s p key node)) (none_delivered plan s p key node never) ∙ go (kept plan s p key node) refl
  where
    go : (o : Option ℕ) → kept plan s p key node ≡ o → greater None (kept plan s p key node) ≡ None
    go None e = ap (greater None) e
    go (Some u) e =
        let g = getter plan s p key node u e in
        absurd (true≢false (sym (ap is_some (answered_value plan s got p key node u apart g.1).0) ∙ ap is_some (never_put_stored plan p key (event_count plan p) never)))

module _ (plan : Plan) (y : Event) (owner key : ℕ) (reply : Reply) where
  pub own_never : (n : ℕ) → put_count plan owner key (event_count plan owner) ≡ 0 → GivesSight plan owner Nothing reply → GivesSight plan owner (held (own plan owner key n)) reply
  own_never n never = subst (λ o. GivesSight plan owner (held o) reply) (sym (never_put plan owner key n never))

  -- what a get that is answered at once sees of one's own key
  pub now_own : y.proc ≡ owner → GivesSight plan owner (held (own plan owner key y.at)) reply → GivesGetNow plan y owner key reply
  now_own same g s cut got = subst (λ v. GivesSight plan owner v reply) (sym (cond-true _ _ _ (eq-eqb y.proc owner same))) g

  module _ (other : y.proc ≡ owner → ⊥) where
    -- on the owner's node
    pub now_node : same_node plan owner y.proc ≡ true → GivesServed plan y owner key reply → GivesGetNow plan y owner key reply
    now_node node g s cut got = subst (λ v. GivesSight plan owner v reply) (sym (cond-false _ _ _ (ne_eqb y.proc owner other) ∙ cond-true _ _ _ node)) (g s cut)

    -- on another node
    pub now_away : same_node plan owner y.proc ≡ false → GivesBrought plan y owner key reply → GivesGetNow plan y owner key reply
    now_away node g s cut got = subst (λ v. GivesSight plan owner v reply) (sym (cond-false _ _ _ (ne_eqb y.proc owner other) ∙ cond-false _ _ _ node)) (g s cut got)

    -- of a key that the owner never puts
    pub now_never : put_count plan owner key (event_count plan owner) ≡ 0 → GivesSight plan owner Nothing reply → GivesGetNow plan y owner key reply
    now_never never g = elim (cases_Bool (same_node plan owner y.proc)) [
      | inl node ↦ now_node node (λ s cut. subst (λ o. GivesSight plan owner (served plan owner true o) reply) (sym (never_put_stored plan owner key (s.done owner) never)) g)
      | inr node ↦
          now_away node (λ s cut got. subst (λ o. GivesSight plan owner (held o) reply) (sym (none_brought plan s got owner key (node_of plan y.proc)
          (λ e. true≢false (sym (eq-eqb _ _ e) ∙ node)) never)) g)
    ]

  module _ (live : Live plan y) (is : kind plan y ≡ Some (Get owner key)) where
    may : may_come plan y (Some (Get owner key)) ≡ true
    may = subst (λ o. may_come plan y o ≡ true) is (live_may live)

    -- a live get of one's own key stands behind a put of it
    pub get_own : y.proc ≡ owner → GivesSight plan owner (held (own plan owner key y.at)) reply → GivesGet plan y owner key reply
    get_own same g s cut =
        let e = eq-eqb y.proc owner same in
        let some : is_some (own plan owner key y.at) ≡ true = subst (λ b. b ≡ true) (cond-true _ _ _ e) may in
        let sees : get_sees plan s.done y.proc y.at owner key ≡ held (own plan owner key y.at) = cond-true _ _ _ e in
        (subst (λ v. is_seen v ≡ true) (sym sees) (seen (own plan owner key y.at) some), subst (λ v. GivesSight plan owner v reply) (sym sees) g)
      where
        seen : (o : Option ℕ) → is_some o ≡ true → is_seen (held o) ≡ true
        seen None h = h
        seen (Some v) h = refl

    -- and one of another's key asks for one that is put
    pub get_never : (y.proc ≡ owner → ⊥) → put_count plan owner key (event_count plan owner) ≡ 0 → ⊥
    get_never other never =
        let promised = subst (λ b. b ≡ true) (cond-false _ _ _ (ne_eqb y.proc owner other)) may in
        elim (or_cases _ _ promised) [
          | inl some ↦ true≢false (sym some ∙ ap is_some (never_put_stored plan owner key (event_count plan owner) never))
          | inr twice ↦ let le = leb-true _ _ twice in omega (arith, le, never)
        ]
