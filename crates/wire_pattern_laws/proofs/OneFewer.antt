-- What a get-now finds in an instance, it finds in the instance without some one rank of a role of four.
use Rattle.std.proofs.Common.{◌≡◌, ℕ, zero, suc, ◌≤◌, List, [], ◌∷◌, length, true, false, ◌==◌, Option, Some, None, inl, inr, refl, sym, ap, ◌∙◌, subst}
use Rattle.std.specs.Prelude.{slice_get}
use Rattle.std.proofs.lemmas.Bool.{true≢false}
use Rattle.std.proofs.lemmas.Option.{none-some}
use Rattle.wire_types.specs.declared.Status.{Status}
use Rattle.wire_types.specs.declared.Status.TheVariants as status
use Rattle.wire_runs.specs.Plan.{Plan, Event, Kind, Get, GetNow, kind, process_node, node_of, same_node}
use Rattle.wire_runs.specs.Fences.{is_member}
use Rattle.wire_runs.specs.Order.{IsArrival, Live, Before}
use Rattle.wire_runs.specs.Races.{Delivery, ByFence, ByGet, IsOf, Delivers, FenceDelivers, GetDelivers, ComesSurely, IsSettled}
use Rattle.wire_runs.specs.Embeddings.{Renaming, image, IsEmbedding, IsKeptDelivery}
use Rattle.wire_runs.specs.Patterns.{Pattern, Coding, Cast, group, processes_from, instance_of, IsLawful, IsCastOf}
use Rattle.wire_runs.specs.Restrictions.{skip, back, restricted, removal, CanGo}
use Rattle.wire_runs.proofs.Images.{event_back}
use Rattle.wire_runs.proofs.Arrivals.{mate_on}
use Rattle.wire_runs.proofs.EmbeddedOrder.{live_back}
use Rattle.wire_runs.proofs.Skip.{skip_back, skip_one, skip_not, without_get}
use Rattle.wire_runs.proofs.RestrictedWhole.{instance_node, restrictions_embed}
use Rattle.wire_runs.proofs.EmbeddedFindings.{now_back}
use Rattle.wire_runs.proofs.TurnMarks.{marks_of, is_image}
use Rattle.wire_runs.proofs.TurnOrigins.{Origin, origin_of}
use Rattle.wire_runs.proofs.FewerFindings.{spare, mark_at}
use Rattle.wire_runs.proofs.FewerDeliveries.{get_turn, turn_case, of_role}
use Rattle.wire_pattern_laws.specs.Finds.{event_in, FindsOwn, FindsNear, far_nothing, far_value, Finds, from_own, from_near, from_far}
use Rattle.wire_pattern_laws.proofs.FindsBack.{own_back, near_back, far_nothing_back, far_value_back}

-- nodes with one left out, of any number
none_in : (pattern : Pattern) (coding : Coding) (cast : Cast) (q : ℕ) (roles : List ℕ) (p : ℕ) → slice_get roles p ≡ None → process_node (slice_get (processes_from pattern coding cast q roles) p) ≡ 0
none_in pattern coding cast q [] p is = refl
none_in pattern coding cast q (role ∷ roles) zero is = absurd (none-some role (sym is))
none_in pattern coding cast q (role ∷ roles) (suc p) is = none_in pattern coding cast (suc q) roles p is

none_node : (pattern : Pattern) (coding : Coding) (cast : Cast) (p : ℕ) → slice_get cast.roles p ≡ None → node_of (instance_of pattern coding cast) p ≡ 0
unfolding node_of
none_node pattern coding cast p is = none_in pattern coding cast 0 cast.roles p is

node_left : (pattern : Pattern) (coding : Coding) (cast : Cast) (r p : ℕ) → node_of (instance_of pattern coding (restricted r cast)) p ≡ node_of (instance_of pattern coding cast) (skip r p)
node_left pattern coding cast r p = go (slice_get cast.roles (skip r p)) refl
  where
    go : (o : Option ℕ) → slice_get cast.roles (skip r p) ≡ o → node_of (instance_of pattern coding (restricted r cast)) p ≡ node_of (instance_of pattern coding cast) (skip r p)
    go None is = none_node pattern coding (restricted r cast) p (without_get r cast.roles p ∙ is) ∙ sym (none_node pattern coding cast (skip r p) is)
    go (Some x) is = instance_node pattern coding (restricted r cast) p x (without_get r cast.roles p ∙ is) ∙ sym (instance_node pattern coding cast (skip r p) x is)

module _ (pattern : Pattern) (coding : Coding) (cast : Cast) (role : ℕ) (lawful : IsLawful pattern) (cast_is : IsCastOf pattern cast) (four : 4 ≤ length (group role cast.roles))
    (settled : (r : ℕ) → slice_get cast.roles r ≡ Some role → IsSettled (instance_of pattern coding (restricted r cast))) where
  abbrev large : Plan
  large = instance_of pattern coding cast

  abbrev to : ℕ → Renaming
  to r = removal pattern coding cast r role

  abbrev small : ℕ → Plan
  small r = instance_of pattern coding (restricted r cast)

  -- the get-now in the instance without r
  pub record Stays (r : ℕ) (get : Event) (owner key : ℕ) : Type 0 where
    pub can : CanGo pattern cast r role
    pub own_get : Event
    pub own_owner : ℕ
    pub own_key : ℕ
    pub get_is : image (to r) own_get ≡ get
    pub owner_is : skip r own_owner ≡ owner
    pub key_is : (to r).key own_key ≡ key
    pub is : kind (small r) own_get ≡ Some (GetNow own_owner own_key)

  -- and what it finds there
  pub record FindsLeft (get : Event) (owner key : ℕ) (found : Status) : Type 0 where
    pub r : ℕ
    pub stays : Stays r get owner key
    pub is_live : Live (small r) stays.own_get
    pub finds : Finds (small r) stays.own_get stays.own_owner stays.own_key found

  embeds : (r : ℕ) → CanGo pattern cast r role → IsEmbedding (to r) (small r) large
  embeds r can = restrictions_embed pattern coding cast r role can

  stays_by : (r : ℕ) → CanGo pattern cast r role → (get : Event) (owner key : ℕ) (y : Event) → image (to r) y ≡ get → (k : Kind) → kind (small r) y ≡ Some k →
      (p : ℕ) × (o : ℕ) × (skip r p ≡ owner) × ((to r).key o ≡ key) × (k ≡ GetNow p o) → Stays r get owner key
  stays_by r can get owner key y at k is now =
      record { can = can; own_get = y; own_owner = now.0; own_key = now.1; get_is = at; owner_is = now.2; key_is = now.3; is = is ∙ ap Some now.4 }

  reader : (get : Event) (owner key e r : ℕ) → CanGo pattern cast r role → kind large get ≡ Some (GetNow owner key) → slice_get (marks_of pattern coding cast get.proc) get.at ≡ Some e → (get.proc ≡ r → ⊥) → (e ≡ r → ⊥) →
      Stays r get owner key
  reader get owner key e r can is mark not_reader not_turn =
      let i = is_image pattern coding cast r role can get e mark not_reader not_turn in
      let b = event_back (to r) (small r) large (embeds r can) i.0 (GetNow owner key) (ap (kind large) i.1 ∙ is) in
      stays_by r can get owner key i.0 i.1 b.0 b.1 (now_back (to r) b.0 owner key b.2)

  -- what is so of the get-now is so of its image
  there : (P : Event → ℕ → ℕ → Type 0) (r : ℕ) (get : Event) (owner key : ℕ) → (w : Stays r get owner key) → P get owner key → P (image (to r) w.own_get) (skip r w.own_owner) ((to r).key w.own_key)
  there P r get owner key w h =
      subst (λ g. P g (skip r w.own_owner) ((to r).key w.own_key)) (sym w.get_is) (subst (λ o. P get o ((to r).key w.own_key)) (sym w.owner_is) (subst (λ k. P get owner k) (sym w.key_is) h))

  module _ (r : ℕ) (get : Event) (owner key : ℕ) (w : Stays r get owner key) (live_get : Live large get) (found : Status) where
    live_there : Live large (image (to r) w.own_get)
    live_there = subst (λ g. Live large g) (sym w.get_is) live_get

    same_there : same_node (small r) w.own_owner w.own_get.proc ≡ same_node large owner get.proc
    same_there =
        ap (λ n. n == node_of (small r) w.own_get.proc) (node_left pattern coding cast r w.own_owner ∙ ap (node_of large) w.owner_is)
        ∙ ap (λ n. node_of large owner == n) (node_left pattern coding cast r w.own_get.proc ∙ ap (λ (v : Event). node_of large v.proc) w.get_is)

    other_there : (get.proc ≡ owner → ⊥) → w.own_get.proc ≡ w.own_owner → ⊥
    other_there ne s = ne (ap (λ (v : Event). v.proc) (sym w.get_is) ∙ ap (skip r) s ∙ w.owner_is)

    left : Finds (small r) w.own_get w.own_owner w.own_key found → FindsLeft get owner key found
    left f = record { r = r; stays = w; is_live = live_back (to r) (small r) large (embeds r w.can) w.own_get live_there; finds = f }

    own_left : get.proc ≡ owner → FindsOwn large get owner key found → FindsLeft get owner key found
    own_left s f =
        let own_is : w.own_get.proc ≡ w.own_owner = skip_one r w.own_get.proc w.own_owner (ap (λ (v : Event). v.proc) w.get_is ∙ s ∙ sym w.owner_is) in
        left (from_own own_is (own_back (to r) (small r) large (embeds r w.can) w.own_get w.own_owner w.own_key w.is live_there found own_is (there (λ g o k. FindsOwn large g o k found) r get owner key w f)))

    near_left : (get.proc ≡ owner → ⊥) → same_node large owner get.proc ≡ true → FindsNear large get owner key found → FindsLeft get owner key found
    near_left ne near f = left (from_near (other_there ne) (same_there ∙ near)
        (near_back (to r) (small r) large (embeds r w.can) w.own_get w.own_owner w.own_key w.is live_there found (there (λ g o k. FindsNear large g o k found) r get owner key w f)))

    -- of a far one, that it finds nothing
    abbrev Nothing : Event → ℕ → ℕ → Type 0
    Nothing g o k = ComesSurely large o k (node_of large g.proc) g → ⊥

    nothing_left : (get.proc ≡ owner → ⊥) → same_node large owner get.proc ≡ false → Nothing get owner key → found ≡ status.NotFound → FindsLeft get owner key found
    nothing_left ne away none is_found = left (from_far (other_there ne) (same_there ∙ away)
        (far_nothing_back (to r) (small r) large (embeds r w.can) w.own_get w.own_owner w.own_key w.is live_there found (there Nothing r get owner key w none) is_found))

    -- or that a delivery that is kept brings it something
    abbrev Brought : Delivery → Event → ℕ → ℕ → Type 0
    Brought d g o k = Delivers large o k (node_of large g.proc) d × ((z : Event) → IsOf large d z → Before large g z → ⊥)

    value_left : (get.proc ≡ owner → ⊥) → same_node large owner get.proc ≡ false → (d : Delivery) → Brought d get owner key → found ≡ status.Success →
        IsKeptDelivery (to r) (small r) large w.own_owner (node_of (small r) w.own_get.proc) d → FindsLeft get owner key found
    value_left ne away d b is_found kept =
        let b' = there (Brought d) r get owner key w b in
        left (from_far (other_there ne) (same_there ∙ away)
        (far_value_back (to r) (small r) large (embeds r w.can) w.own_get w.own_owner w.own_key w.is live_there found d b'.0 b'.1 is_found kept))

    -- the node of the get-now
    node_is : node_of (small r) w.own_get.proc ≡ node_of large get.proc
    node_is = node_left pattern coding cast r w.own_get.proc ∙ ap (λ (v : Event). node_of large v.proc) w.get_is

    node_there : (q : ℕ) → (q ≡ r → ⊥) → node_of (small r) (back r q) ≡ node_of large q
    node_there q ne = node_left pattern coding cast r (back r q) ∙ ap (node_of large) (skip_back r q ne)

    not_owner : owner ≡ r → ⊥
    not_owner s = skip_not r w.own_owner (w.owner_is ∙ s)

    fence_kept : (members : List ℕ) (j : ℕ) → (b : FenceDelivers large owner key (node_of large get.proc) members j) → (m : ℕ) → is_member members m ≡ true → node_of large m ≡ node_of large get.proc → (e : ℕ) →
        slice_get (marks_of pattern coding cast owner) b.away.at ≡ Some e → (e ≡ r → ⊥) → (m ≡ r → ⊥) → IsKeptDelivery (to r) (small r) large w.own_owner (node_of (small r) w.own_get.proc) (ByFence members j)
    fence_kept members j b m m_in m_there e mark not_turn not_mate =
        let mine : Event = event_in owner b.away.at in
        let i = is_image pattern coding cast r role w.can mine e mark not_owner not_turn in
        let proc_is : i.0.proc ≡ w.own_owner = skip_one r i.0.proc w.own_owner (ap (λ (v : Event). v.proc) i.1 ∙ sym w.owner_is) in
        let arrival : IsArrival large members j (image (to r) i.0) = subst (λ v. IsArrival large members j v) (sym i.1) b.away.arrival in
        record {
          own_at = i.0.at;
          arrival = subst (λ q. IsArrival large members j (image (to r) (record { proc = q; at = i.0.at }))) proc_is arrival;
          mate = back r m;
          mate_is_member = ap (is_member members) (skip_back r m not_mate) ∙ m_in;
          mate_there = node_there m not_mate ∙ m_there ∙ sym node_is;
        }

    get_kept : (g : Event) → (b : GetDelivers large owner key (node_of large get.proc) g) → (e : ℕ) → slice_get (marks_of pattern coding cast g.proc) g.at ≡ Some e → Origin pattern coding cast g.proc e (Get owner key) →
        (g.proc ≡ r → ⊥) → IsKeptDelivery (to r) (small r) large w.own_owner (node_of (small r) w.own_get.proc) (ByGet g)
    get_kept g b e mark origin not_getter =
        let i = is_image pattern coding cast r role w.can g e mark not_getter (get_turn pattern coding cast role lawful cast_is four settled r w.can g.proc e owner key w.own_key origin not_getter not_owner w.key_is) in
        (i.0, i.1, node_left pattern coding cast r i.0.proc ∙ ap (λ (v : Event). node_of large v.proc) i.1 ∙ b.there ∙ sym node_is)

  -- some rank can go
  module _ (get : Event) (owner key : ℕ) (is : kind large get ≡ Some (GetNow owner key)) (live_get : Live large get) (found : Status) where
    mark_get : (e : ℕ) × (slice_get (marks_of pattern coding cast get.proc) get.at ≡ Some e)
    mark_get = mark_at pattern coding cast get.proc get.at _ is

    any : (r : ℕ) × CanGo pattern cast r role × (r ≡ get.proc → ⊥) × (r ≡ mark_get.0 → ⊥) × (r ≡ get.proc → ⊥)
    any = spare pattern coding cast role lawful cast_is four settled get.proc mark_get.0 get.proc

    any_reader : Stays any.0 get owner key
    any_reader = reader get owner key mark_get.0 any.0 any.1 is mark_get.1 (λ q. any.2 (sym q)) (λ q. any.3 (sym q))

    value_case : (get.proc ≡ owner → ⊥) → same_node large owner get.proc ≡ false → (d : Delivery) → Delivers large owner key (node_of large get.proc) d → ((z : Event) → IsOf large d z → Before large get z → ⊥) →
        found ≡ status.Success → FindsLeft get owner key found
    value_case ne away (ByFence members j) d none is_found =
        let b : FenceDelivers large owner key (node_of large get.proc) members j = d.brings_it in
        let m = mate_on large members (node_of large get.proc) b.reaches in
        let a = b.away.arrival in
        let e = mark_at pattern coding cast owner b.away.at _ a.is in
        let origin = origin_of pattern coding cast any.0 role any.1 owner b.away.at e.0 _ a.is e.1 in
        elim (turn_case pattern coding cast role lawful cast_is four settled owner e.0 members a.collect origin) [
          | inl out ↦ (
              let s = spare pattern coding cast role lawful cast_is four settled get.proc mark_get.0 m.0 in
              let w = reader get owner key mark_get.0 s.0 s.1 is mark_get.1 (λ q. s.2 (sym q)) (λ q. s.3 (sym q)) in
              value_left s.0 get owner key w live_get found ne away (ByFence members j) (d, none) is_found
              (fence_kept s.0 get owner key w live_get found members j b m.0 m.1 m.2 e.0 e.1
              (λ q. elim out [
                | inl own ↦ not_owner s.0 get owner key w live_get found (sym own ∙ q)
                | inr none_of ↦ true≢false (sym (of_role pattern coding cast role lawful cast_is four settled s.0 s.1) ∙ ap (is_member (group role cast.roles)) (sym q) ∙ none_of)
              ])
              (λ q. s.4 (sym q))))
          | inr only ↦ (
              let s = spare pattern coding cast role lawful cast_is four settled get.proc mark_get.0 e.0 in
              let w = reader get owner key mark_get.0 s.0 s.1 is mark_get.1 (λ q. s.2 (sym q)) (λ q. s.3 (sym q)) in
              value_left s.0 get owner key w live_get found ne away (ByFence members j) (d, none) is_found
              (fence_kept s.0 get owner key w live_get found members j b m.0 m.1 m.2 e.0 e.1 (λ q. s.4 (sym q))
              (λ q. true≢false (sym m.1 ∙ ap (is_member members) q ∙ only s.0 s.1 (not_owner s.0 get owner key w live_get found) (λ q'. s.4 (sym q'))))))
        ]
    value_case ne away (ByGet g) d none is_found =
        let b : GetDelivers large owner key (node_of large get.proc) g = d.brings_it in
        let e = mark_at pattern coding cast g.proc g.at _ b.away.is in
        let origin = origin_of pattern coding cast any.0 role any.1 g.proc g.at e.0 _ b.away.is e.1 in
        let s = spare pattern coding cast role lawful cast_is four settled get.proc mark_get.0 g.proc in
        let w = reader get owner key mark_get.0 s.0 s.1 is mark_get.1 (λ q. s.2 (sym q)) (λ q. s.3 (sym q)) in
        value_left s.0 get owner key w live_get found ne away (ByGet g) (d, none) is_found (get_kept s.0 get owner key w live_get found g b e.0 e.1 origin (λ q. s.4 (sym q)))

    pub finds_left : Finds large get owner key found → FindsLeft get owner key found
    finds_left (from_own s f) = own_left any.0 get owner key any_reader live_get found s f
    finds_left (from_near ne near f) = near_left any.0 get owner key any_reader live_get found ne near f
    finds_left (from_far ne away (far_nothing none is_found)) = nothing_left any.0 get owner key any_reader live_get found ne away none is_found
    finds_left (from_far ne away (far_value d delivers none is_found)) = value_case ne away d delivers none is_found
