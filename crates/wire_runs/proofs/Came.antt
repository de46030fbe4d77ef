-- What a get-now sees doesn't change between two states that both have all that is before it.
use Rattle.std.proofs.Common.{◌≡◌, ℕ, suc, ◌<◌, ◌≤◌, true, false, cond, nat_eq, nat_le, Option, Some, None, List, is_some, inl, inr, refl, sym, ap, ◌∙◌, subst, arith, eq-eqb, leb-true, leb-false}
use Rattle.std.proofs.lemmas.Option.{same_Some}
use Rattle.std.proofs.lemmas.Bool.{cond-true, cond-false, cond_both, cases_eq, cases_lt, cases_Bool, and_parts, and_from, true≢false}
use Rattle.wire_runs.specs.Plan.{Plan, GetNow, kind, event_count, node_of, same_node, admits, Event}
use Rattle.wire_runs.specs.State.{State, IsDone}
use Rattle.wire_runs.specs.Puts.{own, stored, scope_of}
use Rattle.wire_runs.specs.Fences.{arrivals, is_member, is_complete, is_collecting, has_node}
use Rattle.wire_runs.specs.Sight.{held, served, for_others, has_brought, delivered, kept, brought, get_now_sees}
use Rattle.wire_runs.specs.Order.{IsArrival, Live, Before}
use Rattle.wire_runs.specs.Races.{Delivery, ByFence, ByGet, IsOf, FenceDelivers, GetDelivers, Delivers, ComesSurely, IsSettled}
use Rattle.wire_runs.proofs.Basics.{arrivals_rise, arrivals_step, event_within}
use Rattle.wire_runs.proofs.Due.{ClosedCut, arrived}
use Rattle.wire_runs.proofs.Puts.{stored_fixed}
use Rattle.wire_runs.proofs.Brought.{Bringer, bringer, delivered_from, complete_more, brings_more, differs, nth_arrival, complete_if_arrived, stored_same}
use Rattle.wire_runs.proofs.Getters.{greater_from, greater_left, greater_right, Answered, Getter, getter, kept_some, answered_value, get_in, get_brought}
use Rattle.wire_runs.proofs.Late.{no_late}

-- what has come to the node
pub data Came (plan : Plan) (s : State) (t key node u : ℕ) : Type 0 where
  by_fence : Bringer plan s.done t node key (event_count plan t) u → admits (scope_of plan t u) false ≡ true → Came plan s t key node u
  by_get : plan.keep ≡ true → Getter plan s t key node u → Came plan s t key node u

for_others_from : (plan : Plan) (t : ℕ) (o : Option ℕ) (u : ℕ) → for_others plan t o ≡ Some u → (o ≡ Some u) × (admits (scope_of plan t u) false ≡ true)
for_others_from plan t None u = λ h. cc
for_others_from plan t (Some v) u =
    cond_both (admits (scope_of plan t v) false) (Some v) None (λ o. o ≡ Some u → (Some v ≡ Some u) × (admits (scope_of plan t u) false ≡ true))
    (λ a h. (h, subst (λ i. admits (scope_of plan t i) false ≡ true) (same_Some _ _ h) a))
    (λ f h. cc)

fence_came : (plan : Plan) (s : State) (t key node u : ℕ) → for_others plan t (delivered plan s.done t node key (event_count plan t)) ≡ Some u → Came plan s t key node u
fence_came plan s t key node u e = let f = for_others_from plan t (delivered plan s.done t node key (event_count plan t)) u e in
    by_fence (bringer plan s.done t node key (event_count plan t) u f.0) f.1

pub came : (plan : Plan) (s : State) (t key node u : ℕ) → brought plan s t key node ≡ Some u → Came plan s t key node u
came plan s t key node u h = elim (greater_from _ _ u h) [
  | inl e ↦ fence_came plan s t key node u e
  | inr e ↦ (let g = getter plan s t key node u e in by_get g.0 g.1)
]

fence_some : (plan : Plan) → IsSettled plan → (s : State) (t key node u : ℕ) → Bringer plan s.done t node key (event_count plan t) u → admits (scope_of plan t u) false ≡ true →
    is_some (for_others plan t (delivered plan s.done t node key (event_count plan t))) ≡ true
fence_some plan settled s t key node u b a = ap is_some (ap (for_others plan t) (delivered_from plan settled s.done t node key (event_count plan t) u b) ∙ cond-true _ _ _ a)

module _ (plan : Plan) (settled : IsSettled plan) (s : State) (answered : Answered plan s) (t key node : ℕ) (away : node_of plan t ≡ node → ⊥) where
  -- whatever came is what its owner stores in the end
  pub came_value : (u : ℕ) → Came plan s t key node u → stored plan t key (event_count plan t) ≡ Some u
  came_value u (by_fence b a) = stored_fixed plan settled t key b.at (event_count plan t) (let l = b.below in omega (arith, l)) (ap is_some b.stored_is) ∙ b.stored_is
  came_value u (by_get keeps g) = (answered_value plan s answered t key node u away g).0

  came_some : (u : ℕ) → Came plan s t key node u → is_some (brought plan s t key node) ≡ true
  came_some u (by_fence b a) = greater_left (for_others plan t (delivered plan s.done t node key (event_count plan t))) (kept plan s t key node) (fence_some plan settled s t key node u b a)
  came_some u (by_get keeps g) = greater_right (for_others plan t (delivered plan s.done t node key (event_count plan t))) (kept plan s t key node) (kept_some plan s t key node u keeps g)

  pub came_is : (u : ℕ) → Came plan s t key node u → brought plan s t key node ≡ Some u
  came_is u c = go (brought plan s t key node) refl (came_some u c)
    where
      go : (o : Option ℕ) → brought plan s t key node ≡ o → is_some o ≡ true → o ≡ Some u
      go None e h = absurd (true≢false (sym h))
      go (Some v) e h = sym (came_value v (came plan s t key node v e)) ∙ came_value u c

pub brings_parts : (plan : Plan) (cut : ℕ → ℕ) (t node : ℕ) (members : List ℕ) (j : ℕ) → has_brought plan cut t node members j ≡ true → (is_complete plan cut members j ≡ true)
    × (is_collecting plan members j ≡ true) × (is_member members t ≡ true) × (has_node plan members node ≡ true)
brings_parts plan cut t node members j h =
    let a = and_parts _ _ h in
    let b = and_parts _ _ a.1 in
    let c = and_parts _ _ b.1 in
    (a.0, b.0, c.0, c.1)

-- of a fence that is complete in the second of two cuts alone, an arrival that isn't done in the first
late_arrival : (plan : Plan) (cut later_cut : ℕ → ℕ) (members : List ℕ) (j : ℕ) → 0 < j → is_complete plan cut members j ≡ false → is_complete plan later_cut members j ≡ true → (z : Event)
    × IsArrival plan members j z × (cut z.proc ≤ z.at)
late_arrival plan cut later_cut members j positive incomplete complete =
    let d = differs (λ m. nat_le j (arrivals plan m members (cut m))) (λ m. nat_le j (arrivals plan m members (later_cut m))) members incomplete complete in
    let few = leb-false _ _ d.2 in
    let z = nth_arrival plan d.0 members j (later_cut d.0) positive (leb-true _ _ d.3) d.1 in
    let nth = z.1.nth in (
      record { proc = d.0; at = z.0 },
      z.1,
      elim (cases_lt z.0 (cut d.0)) [
        | inl lt ↦ absurd (let rise = arrivals_rise plan d.0 members (suc z.0) (cut d.0) lt in omega (arith, few, rise, nth))
        | inr ge ↦ ge
      ],
    )

module _ (plan : Plan) (settled : IsSettled plan) (s r : State) (y : Event) (up : (m : ℕ) → s.done m ≤ r.done m) (known : (z : Event) → Before plan z y → IsDone s z) (closed : ClosedCut plan r.done)
    (not_yet : r.done y.proc ≤ y.at) (live_y : Live plan y) (answered_s : Answered plan s) (answered_r : Answered plan r) (t key : ℕ) (is : kind plan y ≡ Some (GetNow t key)) where
  module _ (away : same_node plan t y.proc ≡ false) where
    apart : node_of plan t ≡ node_of plan y.proc → ⊥
    apart e = true≢false (sym (eq-eqb _ _ e) ∙ away)

    stays : (u : ℕ) → Came plan s t key (node_of plan y.proc) u → Came plan r t key (node_of plan y.proc) u
    stays u (by_fence b a) = by_fence (record {
      at = b.at;
      members = b.members;
      collect = b.collect;
      is = b.is;
      brings_it = brings_more plan s.done r.done t (node_of plan y.proc) b.members _ up b.brings_it;
      stored_is = b.stored_is;
      below = b.below;
    }) a
    stays u (by_get keeps g) =
        by_get keeps (get_in plan t key (node_of plan y.proc) apart s r answered_s answered_r u g (let a = g.is_done in let b = up g.get.proc in omega (arith, a, b)))

    -- where nothing has come in the first state
    module _ (none : brought plan s t key (node_of plan y.proc) ≡ None) where
      had : (u : ℕ) → Came plan s t key (node_of plan y.proc) u → ⊥
      had u c = let d = came_is plan settled s answered_s t key (node_of plan y.proc) apart u c in cc

      sure_came : (d : Delivery) → Delivers plan t key (node_of plan y.proc) d → ((z : Event) → IsOf plan d z → Before plan z y) → ⊥
      sure_came (ByFence members j) delivers before =
          let d = delivers.brings_it in
          let complete_now = complete_if_arrived plan s.done members j d.away.full (λ z a. known z (before z a)) in
          had d.away.put (by_fence (record {
            at = d.away.at;
            members = members;
            collect = d.away.arrival.collect;
            is = d.away.arrival.is;
            brings_it = subst (λ i. has_brought plan s.done t (node_of plan y.proc) members i ≡ true) (sym d.away.arrival.nth)
                (and_from _ _ complete_now (and_from _ _ d.away.collecting (and_from _ _ d.away.member d.reaches)));
            stored_is = d.away.committed;
            below = event_within plan t d.away.at _ d.away.arrival.is;
          }) d.away.admitted)
      sure_came (ByGet get) delivers before =
          let d = delivers.brings_it in had d.away.put (by_get d.away.keeps (get_brought plan s answered_s t key (node_of plan y.proc) apart get d (known get (before get refl))))

      not_sure : ComesSurely plan t key (node_of plan y.proc) y → ⊥
      not_sure sure = sure_came sure.delivery sure.delivers sure.all_before

      came_late : (u : ℕ) → Came plan r t key (node_of plan y.proc) u → ⊥
      came_late u (by_fence b a) =
          let j = arrivals plan t b.members (suc b.at) in
          let parts = brings_parts plan r.done t (node_of plan y.proc) b.members j b.brings_it in
          let incomplete : is_complete plan s.done b.members j ≡ false = elim (cases_Bool (is_complete plan s.done b.members j)) [
            | inl c ↦ absurd (had u (by_fence (record {
              at = b.at;
              members = b.members;
              collect = b.collect;
              is = b.is;
              brings_it = and_from _ _ c (and_parts _ _ b.brings_it).1;
              stored_is = b.stored_is;
              below = b.below;
            }) a))
            | inr f ↦ f
          ] in
          let z = late_arrival plan s.done r.done b.members j (let e = arrivals_step plan t b.members b.collect b.at b.is in omega (arith, e)) incomplete parts.0 in
          no_late plan settled r.done y closed not_yet live_y t key is away
          (ap is_some (came_value plan settled r answered_r t key (node_of plan y.proc) apart u (by_fence b a))) not_sure (ByFence b.members j)
          (record {
            reaches = parts.3;
            away = record {
              full = complete_more plan r.done (event_count plan) b.members j closed.within parts.0;
              collecting = parts.1;
              member = parts.2;
              at = b.at;
              put = u;
              arrival = record { collect = b.collect; is = b.is; member = parts.2; nth = refl };
              committed = b.stored_is;
              admitted = a;
            };
          })
          (λ v v_arrives. arrived plan r.done b.members j v parts.0 v_arrives)
          z.0 z.1 (λ before. let d = known z.0 before in let l = z.2 in omega (arith, d, l))
      came_late u (by_get keeps g) =
          let v = answered_value plan r answered_r t key (node_of plan y.proc) u apart g in
          no_late plan settled r.done y closed not_yet live_y t key is away (ap is_some v.0) not_sure (ByGet g.get)
          (record { away = record { keeps = keeps; is = g.is; put = u; committed = v.0; admitted = v.1 }; there = g.there })
          (λ z e. subst (λ x. IsDone r x) (sym e) g.is_done)
          g.get refl (λ before. had u (by_get keeps (get_in plan t key (node_of plan y.proc) apart r s answered_r answered_s u g (known g.get before))))

    brought_same : brought plan r t key (node_of plan y.proc) ≡ brought plan s t key (node_of plan y.proc)
    brought_same = go (brought plan s t key (node_of plan y.proc)) (brought plan r t key (node_of plan y.proc)) refl refl
      where
        go : (o v : Option ℕ) → brought plan s t key (node_of plan y.proc) ≡ o → brought plan r t key (node_of plan y.proc) ≡ v →
            brought plan r t key (node_of plan y.proc) ≡ brought plan s t key (node_of plan y.proc)
        go (Some u) v e f = came_is plan settled r answered_r t key (node_of plan y.proc) apart u (stays u (came plan s t key (node_of plan y.proc) u e)) ∙ sym e
        go None None e f = f ∙ sym e
        go None (Some u) e f = absurd (came_late e u (came plan r t key (node_of plan y.proc) u f))

  -- a get-now sees the same in both states
  pub now_same : get_now_sees plan r y.proc y.at t key ≡ get_now_sees plan s y.proc y.at t key
  now_same = elim (cases_eq y.proc t) [
    | inl e ↦ cond-true _ _ _ (eq-eqb y.proc t e) ∙ sym (cond-true _ _ _ (eq-eqb y.proc t e))
    | inr other ↦ ap (cond (nat_eq y.proc t) (held (own plan t key y.at))) (elim (cases_Bool (same_node plan t y.proc)) [
      | inl here ↦ cond-true _ _ _ here ∙ ap (served plan t true) (stored_same plan settled s.done r.done y up known closed not_yet live_y t key is other here) ∙ sym (cond-true _ _ _ here)
      | inr away ↦ cond-false _ _ _ away ∙ ap held (brought_same away) ∙ sym (cond-false _ _ _ away)
    ])
  ]

-- what has come to a node a delivery has brought that is done
pub came_by : (plan : Plan) (s : State) → ClosedCut plan s.done → Answered plan s → (t key node u : ℕ) → (node_of plan t ≡ node → ⊥) → Came plan s t key node u →
    (d : Delivery) × Delivers plan t key node d × ((z : Event) → IsOf plan d z → IsDone s z)
came_by plan s closed answered t key node u apart (by_fence b a) =
    let j = arrivals plan t b.members (suc b.at) in
    let parts = brings_parts plan s.done t node b.members j b.brings_it in (
      ByFence b.members j,
      record {
        brings_it = record {
          reaches = parts.3;
          away = record {
            full = complete_more plan s.done (event_count plan) b.members j closed.within parts.0;
            collecting = parts.1;
            member = parts.2;
            at = b.at;
            put = u;
            arrival = record { collect = b.collect; is = b.is; member = parts.2; nth = refl };
            committed = b.stored_is;
            admitted = a;
          };
        };
        all_live = λ z z_arrives. closed.all_live z (arrived plan s.done b.members j z parts.0 z_arrives);
      },
      (λ z z_arrives. arrived plan s.done b.members j z parts.0 z_arrives),
    )
came_by plan s closed answered t key node u apart (by_get keeps g) =
    let v = answered_value plan s answered t key node u apart g in (
      ByGet g.get,
      record {
        brings_it = record { away = record { keeps = keeps; is = g.is; put = u; committed = v.0; admitted = v.1 }; there = g.there };
        all_live = λ z e. closed.all_live z (subst (IsDone s) (sym e) g.is_done);
      },
      (λ z e. subst (IsDone s) (sym e) g.is_done),
    )

-- what a delivery that is done brought has come
pub came_of : (plan : Plan) (s : State) → Answered plan s → (t key node : ℕ) → (node_of plan t ≡ node → ⊥) → (d : Delivery) → Delivers plan t key node d → ((z : Event) → IsOf plan d z → IsDone s z) →
    (u : ℕ) × Came plan s t key node u
came_of plan s answered t key node apart (ByFence members j) delivers done =
    let d : FenceDelivers plan t key node members j = delivers.brings_it in
    let complete_now = complete_if_arrived plan s.done members j d.away.full done in (
      d.away.put,
      by_fence (record {
        at = d.away.at;
        members = members;
        collect = d.away.arrival.collect;
        is = d.away.arrival.is;
        brings_it = subst (λ i. has_brought plan s.done t node members i ≡ true) (sym d.away.arrival.nth) (and_from _ _ complete_now (and_from _ _ d.away.collecting (and_from _ _ d.away.member d.reaches)));
        stored_is = d.away.committed;
        below = event_within plan t d.away.at _ d.away.arrival.is;
      }) d.away.admitted,
    )
came_of plan s answered t key node apart (ByGet get) delivers done =
    let d : GetDelivers plan t key node get = delivers.brings_it in
    (d.away.put, by_get d.away.keeps (get_brought plan s answered t key node apart get d (done get refl)))
