-- Small plans that have no race on a key as they are placed, and have one elsewhere.
use Rattle.std.proofs.Common.{◌≡◌, ℕ, zero, suc, List, [], ◌∷◌, Bool, true, false, Some, refl, arith}
use Rattle.wire_runs.specs.Plan.{Plan, CallPut, CallCommit, CallFence, CallGetNow, Arrive, kinds, kind_at, event_count, node_of, Event}
use Rattle.wire_types.specs.declared.Scope.TheVariants.{Remote, Global}
use Rattle.wire_runs.specs.Order.{Live, Before}
use Rattle.wire_runs.specs.Races.{Delivery, ByFence, ByGet, IsOf, IsNodeRace, IsDeliveryRace, FenceBringsAway, IsNearRace}
use Rattle.wire_runs.specs.Placings.{paired, Carries, HasSurely, IsFarRace, IsSettledAnywhere}
use Rattle.wire_runs.specs.PlacingLaws.{IsOneANode, HasNoKeyRace}
use Rattle.wire_runs.proofs.LiveNext.{live_next, done_before}
use Rattle.wire_runs.proofs.Anywhere.{one_a_node_has_none, near_anywhere, far_anywhere}

-- a put for other nodes, a commit, and a get-now elsewhere: on one node it races, though the scope admits no reader there
near : Plan
near = record {
  processes =
      record { node = 0; calls = CallPut 7 Remote ∷ (CallCommit ∷ []) }
      ∷ (record { node = 1; calls = CallGetNow 0 7 ∷ [] } ∷ []);
  keep = false;
}

near_race : IsNearRace near (record { proc = 0; at = 1 }) (record { proc = 1; at = 0 }) 7
unfolding near kinds node_of kind_at event_count
near_race = record {
  is = refl;
  another = λ e. omega (arith, e);
  once = refl;
  stores = record { nothing_before = refl; something_after = refl };
  unordered = record {
    live_x = live_next near (0 ∷ []) (refl, tt) 0 refl;
    live_y = live_next near [] tt 1 refl;
    not_before = λ b. (let d = done_before near [] tt 1 refl (record { proc = 0; at = 1 }) b in omega (arith, d));
    not_after = λ b. (let d = done_before near (0 ∷ []) (refl, tt) 0 refl (record { proc = 1; at = 0 }) b in omega (arith, d));
  };
}

near_on_one_node : IsNodeRace (paired near 0 1) (record { proc = 0; at = 1 }) (record { proc = 1; at = 0 }) 7
near_on_one_node = (near_anywhere near (record { proc = 0; at = 1 }) (record { proc = 1; at = 0 }) 7).on_pair near_race

near_unsettled : IsSettledAnywhere near → ⊥
near_unsettled s = s.no_near_race (record { proc = 0; at = 1 }) (record { proc = 1; at = 0 }) 7 near_race

-- as it is placed, one process a node, it has no race on a key
near_one_a_node : IsOneANode near
unfolding near node_of
near_one_a_node zero zero p q ne = absurd (ne refl)
near_one_a_node zero (suc zero) p q ne = refl
near_one_a_node (suc zero) zero p q ne = refl
near_one_a_node (suc zero) (suc zero) p q ne = absurd (ne refl)
near_one_a_node (suc (suc p)) q within within' ne = absurd (omega (arith, within))
near_one_a_node p (suc (suc q)) within within' ne = absurd (omega (arith, within'))

near_has_none : HasNoKeyRace near
near_has_none = one_a_node_has_none near near_one_a_node

-- a fence of two, and a third that gets now: with the second on its node it races
far : Plan
far = record {
  processes =
      record { node = 0; calls = CallPut 7 Global ∷ (CallCommit ∷ (CallFence (0 ∷ (1 ∷ [])) true ∷ [])) }
      ∷ (record { node = 1; calls = CallFence (0 ∷ (1 ∷ [])) true ∷ [] }
      ∷ (record { node = 2; calls = CallGetNow 0 7 ∷ [] } ∷ []));
  keep = false;
}

-- the arrivals of the plan
each_arrival : (P : ℕ → ℕ → Type 0) → P 0 2 → P 1 0 → (p i : ℕ) (members : List ℕ) (collect : Bool) → kind_at far p i ≡ Some (Arrive members collect) → P p i
unfolding far kinds kind_at
each_arrival P a b zero zero members collect e = cc
each_arrival P a b zero (suc zero) members collect e = cc
each_arrival P a b zero (suc (suc zero)) members collect e = a
each_arrival P a b zero (suc (suc (suc zero))) members collect e = cc
each_arrival P a b zero (suc (suc (suc (suc i)))) members collect e = cc
each_arrival P a b (suc zero) zero members collect e = b
each_arrival P a b (suc zero) (suc zero) members collect e = cc
each_arrival P a b (suc zero) (suc (suc i)) members collect e = cc
each_arrival P a b (suc (suc zero)) zero members collect e = cc
each_arrival P a b (suc (suc zero)) (suc i) members collect e = cc
each_arrival P a b (suc (suc (suc p))) i members collect e = cc

-- nothing is before the get
nothing_before : (x : Event) → Before far x (record { proc = 2; at = 0 }) → ⊥
unfolding far kinds node_of kind_at event_count
nothing_before x b = let d = done_before far [] tt 2 refl x b in omega (arith, d)

never_sure : (m : ℕ) → HasSurely far 0 7 m (record { proc = 2; at = 0 }) → ⊥
never_sure m h = go h.delivery h.carries h.all_before
  where
    go : (d : Delivery) → Carries far 0 7 m d → ((z : Event) → IsOf far d z → Before far z (record { proc = 2; at = 0 })) → ⊥
    go (ByFence members j) c all = let b : FenceBringsAway far 0 7 members j = c.brings_away in nothing_before _ (all _ b.arrival)
    go (ByGet g) c all = nothing_before g (all g refl)

live_arrivals : (p i : ℕ) (members : List ℕ) (collect : Bool) → kind_at far p i ≡ Some (Arrive members collect) → Live far (record { proc = p; at = i })
unfolding far kinds node_of kind_at event_count
live_arrivals = each_arrival (λ p i. Live far (record { proc = p; at = i })) (live_next far (0 ∷ (0 ∷ [])) (refl, (refl, tt)) 0 refl) (live_next far [] tt 1 refl)

not_after : (p i : ℕ) (members : List ℕ) (collect : Bool) → kind_at far p i ≡ Some (Arrive members collect) → Before far (record { proc = 2; at = 0 }) (record { proc = p; at = i }) → ⊥
unfolding far kinds node_of kind_at event_count
not_after = each_arrival (λ p i. Before far (record { proc = 2; at = 0 }) (record { proc = p; at = i }) → ⊥)
    (λ b. let d = done_before far (0 ∷ (0 ∷ [])) (refl, (refl, tt)) 0 refl (record { proc = 2; at = 0 }) b in omega (arith, d))
    (λ b. let d = done_before far [] tt 1 refl (record { proc = 2; at = 0 }) b in omega (arith, d))

far_race : IsFarRace far (record { proc = 0; at = 2 }) (record { proc = 2; at = 0 }) 0 7 1
unfolding far kinds node_of kind_at event_count
far_race = record {
  is = refl;
  another = λ e. omega (arith, e);
  once = refl;
  get_live = live_next far [] tt 2 refl;
  reader_not_sure = never_sure 2;
  neighbour_not_sure = never_sure 1;
  delivery = ByFence (0 ∷ (1 ∷ [])) 1;
  carries = record {
    another = λ e. omega (arith, e);
    takes_part = refl;
    brings_away = record {
      full = refl;
      collecting = refl;
      member = refl;
      at = 2;
      put = 0;
      arrival = record { collect = true; is = refl; member = refl; nth = refl };
      committed = refl;
      admitted = refl;
    };
    all_live = λ z a. live_arrivals z.proc z.at (0 ∷ (1 ∷ [])) a.collect a.is;
  };
  before_none = λ z a b. not_after z.proc z.at (0 ∷ (1 ∷ [])) a.collect a.is b;
  of_it = record { collect = true; is = refl; member = refl; nth = refl };
  not_before = λ b. nothing_before (record { proc = 0; at = 2 }) b;
  first = λ z a not. omega arith;
}

far_on_one_node : IsDeliveryRace (paired far 2 1) (record { proc = 0; at = 2 }) (record { proc = 2; at = 0 }) 0 7
far_on_one_node = (far_anywhere far (record { proc = 0; at = 2 }) (record { proc = 2; at = 0 }) 0 7).on_pair 1 far_race

-- as it is placed, one process a node, it has no race on a key
one_a_node : IsOneANode far
unfolding far node_of
one_a_node zero zero p q ne = absurd (ne refl)
one_a_node zero (suc zero) p q ne = refl
one_a_node zero (suc (suc zero)) p q ne = refl
one_a_node (suc zero) zero p q ne = refl
one_a_node (suc zero) (suc zero) p q ne = absurd (ne refl)
one_a_node (suc zero) (suc (suc zero)) p q ne = refl
one_a_node (suc (suc zero)) zero p q ne = refl
one_a_node (suc (suc zero)) (suc zero) p q ne = refl
one_a_node (suc (suc zero)) (suc (suc zero)) p q ne = absurd (ne refl)
one_a_node (suc (suc (suc p))) q within within' ne = absurd (omega (arith, within))
one_a_node p (suc (suc (suc q))) within within' ne = absurd (omega (arith, within'))

no_race_as_placed : HasNoKeyRace far
no_race_as_placed = one_a_node_has_none far one_a_node
