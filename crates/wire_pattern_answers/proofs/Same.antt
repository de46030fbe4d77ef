-- What a get-now finds on some nodes, it finds on others, where the same that it needs is beside it.
use Rattle.std.proofs.Common.{◌≡◌, ◌∙◌, ap, sym, subst, refl, ℕ, ◌<◌, true, false, Some, is_some, eq-eqb, arith}
use Rattle.std.proofs.lemmas.Bool.{true≢false}
use Rattle.wire_types.specs.declared.Status.{Status}
use Rattle.wire_types.specs.declared.Status.TheVariants as status
use Rattle.wire_runs.specs.Plan.{Plan, Event, event_count, process_count, node_of, same_node, admits}
use Rattle.wire_runs.specs.Puts.{stored}
use Rattle.wire_runs.specs.Order.{Stores, Edge, Feeds, Live, Before, edge}
use Rattle.wire_runs.specs.Races.{Delivery, ByFence, ByGet, IsOf, FenceDelivers, GetDelivers, Delivers, ComesSurely, IsSettled}
use Rattle.wire_runs.specs.Placings.{IsPlacing, Carries, HasSurely}
use Rattle.wire_runs.specs.PlacingLaws.{AreAlike}
use Rattle.wire_runs.proofs.PlacingKeeps.{turned, placing_keeps, counts, own_same, stored_same, scope_same, surely_kept}
use Rattle.wire_runs.proofs.Anywhere.{to_node, to_process, part_within}
use Rattle.wire_runs.proofs.Basics.{event_within, stored_own}
use Rattle.wire_runs.proofs.Due.{live_source}
use Rattle.wire_runs.proofs.Histories.{before_live, joined, same_process}
use Rattle.wire_runs.proofs.Puts.{first_stores, put_once, stored_fixed}
use Rattle.wire_pattern_laws.specs.Finds.{found_status, shown_status, event_in, FindsOwn, FindsNear, near_nothing, near_value, far_nothing, far_value, Finds, from_own, from_near, from_far}

module _ (other there : Plan) (same : IsPlacing other there) (get : Event) (owner key : ℕ) (found : Status) where
  kept : AreAlike other there
  kept = placing_keeps other there same

  -- of its own process's key
  pub own_there : get.proc ≡ owner → FindsOwn other get owner key found → Finds there get owner key found
  own_there s f = from_own s (f ∙ ap (λ o. found_status (is_some o)) (own_same other there same owner key get.at))

  -- on the owner's node
  pub near_there : (get.proc ≡ owner → ⊥) → same_node there owner get.proc ≡ true → FindsNear other get owner key found → Finds there get owner key found
  near_there ne near (near_nothing none f) =
      from_near ne near (near_nothing (λ i stores b. none i ((kept.stores (event_in owner i) key).1 stores) ((kept.chains (event_in owner i) get).1 b)) f)
  near_there ne near (near_value i put stores l not_before is_put f) =
      let commit = event_in owner i in
      from_near ne near (near_value i put ((kept.stores commit key).0 stores) ((kept.lives commit).0 l) (λ b. not_before ((kept.chains get commit).1 b))
      (sym (stored_same other there same owner key (event_count there owner)) ∙ ap (stored other owner key) (sym (counts other there same owner)) ∙ is_put)
      (f ∙ ap (λ s. shown_status (admits s true)) (scope_same other there same owner put)))

  module _ (ne : get.proc ≡ owner → ⊥) (away : same_node there owner get.proc ≡ false) where
    -- alone, it finds nothing where it does so on some node without the owner
    pub nothing_there : ((m : ℕ) → m < process_count there → node_of there m ≡ node_of there get.proc → m ≡ get.proc)
        → (ComesSurely other owner key (node_of other get.proc) get → ⊥) → found ≡ status.NotFound → Finds there get owner key found
    nothing_there alone none f = from_far ne away (far_nothing (λ sure.
        let m = to_process there owner key (node_of there get.proc) sure.delivery (λ e. true≢false (sym (eq-eqb _ _ e) ∙ away)) sure.delivers in
        let h : HasSurely other owner key get.proc get = subst (λ v. HasSurely other owner key v get) (alone m.0 (part_within there owner key m.0 sure.delivery m.1) m.2)
        (surely_kept there other (turned same) owner key m.0 get (record { delivery = sure.delivery; carries = m.1; all_before = sure.all_before })) in
        none (record { delivery = h.delivery; delivers = to_node other owner key (node_of other get.proc) get.proc h.delivery refl h.carries; all_before = h.all_before })) f)

    of_back : (d : Delivery) (z : Event) → IsOf there d z → IsOf other d z
    of_back (ByFence members j) z h = (kept.arrivals members j z).1 h
    of_back (ByGet g) z h = h

    -- with all but the owner, it finds the key where it does so with some of them
    pub value_there : same_node other owner get.proc ≡ false → ((m : ℕ) → m < process_count there → (m ≡ owner → ⊥) → node_of there m ≡ node_of there get.proc)
        → (d : Delivery) → Delivers other owner key (node_of other get.proc) d → ((z : Event) → IsOf other d z → Before other get z → ⊥)
        → found ≡ status.Success → Finds there get owner key found
    value_there off together d delivers none f =
        let m = to_process other owner key (node_of other get.proc) d (λ e. true≢false (sym (eq-eqb _ _ e) ∙ off)) delivers in
        let carries : Carries there owner key m.0 d = (kept.carries owner key m.0 d).0 m.1 in
        let on = together m.0 (part_within there owner key m.0 d carries) carries.another in
        from_far ne away (far_value d (to_node there owner key (node_of there get.proc) m.0 d on carries)
        (λ z a b. none z (of_back d z a) ((kept.chains get z).1 b)) f)

-- a live commit stores the key, and the get isn't before it
pub record IsCommitted (plan : Plan) (get : Event) (owner key : ℕ) : Type 0 where
  pub at : ℕ
  pub put : ℕ
  pub stores : Stores plan (event_in owner at) key
  pub is_live : Live plan (event_in owner at)
  pub not_before : Before plan get (event_in owner at) → ⊥
  pub put_is : stored plan owner key (event_count plan owner) ≡ Some put

-- so it is where a delivery, of which the get is before no event, brings the key to another node
pub brought_is_committed : (plan : Plan) → IsSettled plan → (get : Event) (owner key : ℕ) → same_node plan owner get.proc ≡ false
    → (d : Delivery) → Delivers plan owner key (node_of plan get.proc) d → ((z : Event) → IsOf plan d z → Before plan get z → ⊥) → IsCommitted plan get owner key
brought_is_committed plan settled get owner key away (ByFence members j) delivers none =
    let w : FenceDelivers plan owner key (node_of plan get.proc) members j = delivers.brings_it in
    let arrival : Event = event_in owner w.away.at in
    let first = first_stores plan owner key w.away.at (ap is_some w.away.committed) in
    let chain = same_process plan (event_in owner first.0) arrival (delivers.all_live arrival w.away.arrival) refl first.1 in
    let within = event_within plan owner w.away.at _ w.away.arrival.is in
    record {
      at = first.0;
      put = w.away.put;
      stores = first.2;
      is_live = before_live chain;
      not_before = λ b. none arrival w.away.arrival (joined b chain);
      put_is = stored_fixed plan settled owner key w.away.at (event_count plan owner) (omega (arith, within)) (ap is_some w.away.committed) ∙ w.away.committed;
    }
brought_is_committed plan settled get owner key away (ByGet g) delivers none =
    let w : GetDelivers plan owner key (node_of plan get.proc) g = delivers.brings_it in
    let first = first_stores plan owner key (event_count plan owner) (ap is_some w.away.committed) in
    let another : owner ≡ g.proc → ⊥ = λ e. true≢false (sym (eq-eqb _ _ (ap (node_of plan) e ∙ w.there)) ∙ away) in
    let once = put_once plan settled owner key (event_count plan owner) (stored_own plan owner key (event_count plan owner) (ap is_some w.away.committed)) in
    let feeds : Edge plan (event_in owner first.0) g = Feeds key w.away.is another once first.2 in
    let live_get = delivers.all_live g refl in
    let live_commit = live_source live_get feeds in
    record {
      at = first.0;
      put = w.away.put;
      stores = first.2;
      is_live = live_commit;
      not_before = λ b. none g refl (joined b (edge live_commit feeds live_get));
      put_is = w.away.committed;
    }
