-- What a get-now finds in a large plan, its image finds in a small one that stands in it.
use Rattle.std.proofs.Common.{◌≡◌, ℕ, suc, ◌≤◌, true, Some, is_some, inl, inr, refl, sym, ap, ◌∙◌, subst, arith}
use Rattle.std.proofs.lemmas.Bool.{cases_lt, true≢false}
use Rattle.wire_types.specs.declared.Status.{Status}
use Rattle.wire_types.specs.declared.Status.TheVariants as status
use Rattle.wire_runs.specs.Plan.{Plan, Event, GetNow, kind, event_count, node_of, admits}
use Rattle.wire_runs.specs.Puts.{own, stored, scope_of}
use Rattle.wire_runs.specs.Fences.{is_member}
use Rattle.wire_runs.specs.Order.{Stores, IsArrival, Live, Before}
use Rattle.wire_runs.specs.Races.{Delivery, ByFence, ByGet, IsOf, Delivers, ComesSurely}
use Rattle.wire_runs.specs.Embeddings.{Renaming, image, IsKeyOf, IsEmbedding, IsKeptDelivery, IsKeptFence}
use Rattle.wire_runs.proofs.Basics.{event_within, stored_stays}
use Rattle.wire_runs.proofs.Puts.{first_stores}
use Rattle.wire_runs.proofs.Images.{mapped_some, own_some, stored_end, stores_into, arrival_into, arrival_back}
use Rattle.wire_runs.proofs.EmbeddedOrder.{chain_into, live_back}
use Rattle.wire_runs.proofs.EmbeddedFindings.{scope_same, sure_into, get_delivers_back, fence_delivers_back}
use Rattle.wire_pattern_laws.specs.Finds.{found_status, shown_status, event_in, FindsOwn, FindsNear, near_nothing, near_value, FindsFar, far_nothing, far_value}

-- a process stores a key once
pub stores_one : (plan : Plan) (p key i j : ℕ) → Stores plan (event_in p i) key → Stores plan (event_in p j) key → i ≡ j
stores_one plan p key i j a b = elim (cases_lt i j) [
  | inl lt ↦ absurd (true≢false (sym (stored_stays plan p key (suc i) j lt a.something_after) ∙ ap is_some b.nothing_before))
  | inr ge ↦ elim (cases_lt j i) [
    | inl lt ↦ absurd (true≢false (sym (stored_stays plan p key (suc j) i lt b.something_after) ∙ ap is_some a.nothing_before))
    | inr le ↦ omega (arith, ge, le)
  ]
]

module _ (to : Renaming) (small large : Plan) (e : IsEmbedding to small large) (get : Event) (owner key : ℕ) (is : kind small get ≡ Some (GetNow owner key)) (live_get : Live large (image to get)) where
  on_key : IsKeyOf small key
  on_key = (get, GetNow owner key, is, refl)

  pub own_back : (found : Status) → get.proc ≡ owner → FindsOwn large (image to get) (to.process owner) (to.key key) found → FindsOwn small get owner key found
  own_back found s f = f ∙ ap found_status same
    where
      within : get.at ≤ event_count small owner
      within = let w = event_within small get.proc get.at _ is in subst (λ p. get.at ≤ event_count small p) s (omega (arith, w))

      same : is_some (own large (to.process owner) (to.key key) (to.place get.proc get.at)) ≡ is_some (own small owner key get.at)
      same = ap (λ p. is_some (own large (to.process owner) (to.key key) (to.place p get.at))) s ∙ own_some to small large e owner key get.at on_key within

  pub near_back : (found : Status) → FindsNear large (image to get) (to.process owner) (to.key key) found → FindsNear small get owner key found
  near_back found (near_nothing none is_found) =
      near_nothing (λ i stores b. none (to.place owner i) (stores_into to small large e (event_in owner i) key on_key stores) (chain_into to small large e b live_get)) is_found
  near_back found (near_value i put stores l not_before is_put is_found) =
      let v = mapped_some (to.place owner) (stored small owner key (event_count small owner)) put (sym (stored_end to small large e owner key on_key) ∙ is_put) in
      let first = first_stores small owner key (event_count small owner) (ap is_some v.1) in
      let into = stores_into to small large e (event_in owner first.0) key on_key first.2 in
      let one : to.place owner first.0 ≡ i = stores_one large (to.process owner) (to.key key) (to.place owner first.0) i into stores in
      let l' : Live large (image to (event_in owner first.0)) = subst (λ j. Live large (event_in (to.process owner) j)) (sym one) l in
      near_value first.0 v.0 first.2 (live_back to small large e (event_in owner first.0) l')
      (λ b. not_before (subst (λ j. Before large (image to get) (event_in (to.process owner) j)) one (chain_into to small large e b l')))
      v.1
      (is_found ∙ ap (λ u. shown_status (admits (scope_of large (to.process owner) u) true)) (sym v.2)
      ∙ ap (λ s. shown_status (admits s true)) (scope_same to small large e owner key (event_count small owner) v.0 v.1))

  pub far_nothing_back : (found : Status) → (ComesSurely large (to.process owner) (to.key key) (node_of large (to.process get.proc)) (image to get) → ⊥) → found ≡ status.NotFound → FindsFar small get owner key found
  far_nothing_back found none is_found = far_nothing (λ sure. none (sure_into to small large e owner key get is live_get sure.delivery sure.delivers sure.all_before)) is_found

  none_back : (z : Event) → Live large (image to z) → (Before large (image to get) (image to z) → ⊥) → Before small get z → ⊥
  none_back z l none b = none (chain_into to small large e b l)

  pub far_value_back : (found : Status) (d : Delivery) → Delivers large (to.process owner) (to.key key) (node_of large (to.process get.proc)) d → ((z : Event) → IsOf large d z → Before large (image to get) z → ⊥) →
      found ≡ status.Success → IsKeptDelivery to small large owner (node_of small get.proc) d → FindsFar small get owner key found
  far_value_back found (ByGet g) d none is_found kept =
      let there = subst (λ v. Delivers large (to.process owner) (to.key key) (node_of large (to.process get.proc)) (ByGet v)) (sym kept.1) d in
      far_value (ByGet kept.0) (get_delivers_back to small large e owner key get is live_get kept.0 kept.2 there)
      (λ z s. none_back z (there.all_live (image to z) (ap (image to) s)) (none (image to z) (ap (image to) s ∙ kept.1)))
      is_found
  far_value_back found (ByFence members j) d none is_found kept =
      let k : IsKeptFence to small large owner (node_of small get.proc) members j = kept in
      let mine : Event = event_in owner k.own_at in
      let a = arrival_back to small large e mine members j k.arrival in
      let there = subst (λ ms. Delivers large (to.process owner) (to.key key) (node_of large (to.process get.proc)) (ByFence ms j)) (sym a.1) d in
      far_value (ByFence a.0 j)
      (fence_delivers_back to small large e owner key get is live_get a.0 j k.own_at k.mate a.2 (subst (λ ms. is_member ms (to.process k.mate) ≡ true) (sym a.1) k.mate_is_member) k.mate_there there)
      (λ z i.
      let i' = arrival_into to small large e z a.0 j i in
      none_back z (there.all_live (image to z) i') (none (image to z) (subst (λ ms. IsArrival large ms j (image to z)) a.1 i')))
      is_found
