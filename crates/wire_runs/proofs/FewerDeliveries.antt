-- Where each instance with one rank fewer is settled, delivery races are refuted by taking one rank away.
use Rattle.std.proofs.Common.{◌≡◌, ℕ, ◌<◌, ◌≤◌, List, ◌∷◌, map, length, Bool, true, false, ◌==◌, Option, Some, None, ◌⊎◌, inl, inr, refl, sym, ap, ◌∙◌, subst, arith, eq-eqb, eqb-true}
use Rattle.std.specs.Prelude.{slice_get}
use Rattle.std.proofs.lemmas.Bool.{cases_eq, cases_Bool, true≢false}
use Rattle.std.proofs.lemmas.Option.{slice_get_cases, slice_get_within}
use Rattle.wire_runs.specs.Plan.{Plan, Event, Arrive, Get, GetNow, kind, process_count, node_of, same_node}
use Rattle.wire_runs.specs.Fences.{is_member}
use Rattle.wire_runs.specs.Order.{IsArrival}
use Rattle.wire_runs.specs.Races.{Delivery, ByFence, ByGet, Delivers, FenceDelivers, GetDelivers, IsDeliveryRace, IsSettled}
use Rattle.wire_runs.specs.Embeddings.{Renaming, image, IsEmbedding, IsKeptDelivery}
use Rattle.wire_runs.specs.Patterns.{Who, Only, Self, Each, Word, Pattern, Coding, Cast, group, who, members_in, instance_of, names_each, has_every, IsLoopLine, KnowsLine, IsLawful, IsCastOf}
use Rattle.wire_runs.specs.Restrictions.{skip, back, without, restricted, removal, CanGo}
use Rattle.wire_runs.proofs.Basics.{process_within}
use Rattle.wire_runs.proofs.Images.{event_back}
use Rattle.wire_runs.proofs.Arrivals.{mate_on}
use Rattle.wire_runs.proofs.Skip.{skip_back, skip_one, skip_not, without_get}
use Rattle.wire_runs.proofs.WholeSets.{member_set, group_member, plays, items_r}
use Rattle.wire_runs.proofs.RestrictedCalls.{code_not, each_in}
use Rattle.wire_runs.proofs.RestrictedWhole.{instance_count, node_same, restrictions_embed}
use Rattle.wire_runs.proofs.EmbeddedFindings.{mate_within, now_back, embeddings_keep_findings}
use Rattle.wire_runs.proofs.Placements.{mate_of}
use Rattle.wire_runs.proofs.TurnMarks.{marks_of, is_image}
use Rattle.wire_runs.proofs.TurnOrigins.{Origin, InScript, InLoop, origin_of, fence_line, get_line}
use Rattle.wire_runs.proofs.FewerFindings.{spare, mark_at}

role_at : (roles : List ℕ) (p : ℕ) → p < length roles → (x : ℕ) × (slice_get roles p ≡ Some x)
role_at roles p lt = elim (slice_get_cases roles p).1 [ inl c ↦ (c.0, c.2) | inr c ↦ absurd (let past = c.0 in omega (arith, lt, past)) ]

module _ (pattern : Pattern) (coding : Coding) (cast : Cast) (role : ℕ) (lawful : IsLawful pattern) (cast_is : IsCastOf pattern cast) (four : 4 ≤ length (group role cast.roles))
    (settled : (r : ℕ) → slice_get cast.roles r ≡ Some role → IsSettled (instance_of pattern coding (restricted r cast))) where
  abbrev large : Plan
  large = instance_of pattern coding cast

  -- the instance without r
  module _ (r : ℕ) (can : CanGo pattern cast r role) where
    abbrev to : Renaming
    to = removal pattern coding cast r role

    abbrev small : Plan
    small = instance_of pattern coding (restricted r cast)

    embeds : IsEmbedding to small large
    embeds = restrictions_embed pattern coding cast r role can

    within_small : (p : ℕ) → skip r p < process_count large → p < process_count small
    within_small p lt =
        let whole = instance_count pattern coding cast in
        let x = role_at cast.roles (skip r p) (omega (arith, lt, whole)) in
        let at = slice_get_within (without r cast.roles) p x.0 (without_get r cast.roles p ∙ x.1) in
        let rest = instance_count pattern coding (restricted r cast) in
        omega (arith, at, rest)

    node_there : (q : ℕ) → q < process_count large → (q ≡ r → ⊥) → node_of small (back r q) ≡ node_of large q
    node_there q lt ne =
        let there = skip_back r q ne in
        sym (node_same pattern coding cast r role can (back r q) (within_small (back r q) (omega (arith, lt, there)))) ∙ ap (node_of large) there

    -- a race among images, its delivery kept, is refuted
    abbrev Refutes : Event → ℕ → ℕ → Event → ℕ → ℕ → Type 0
    Refutes source p node get owner key = (race : IsDeliveryRace large source get owner key) → IsKeptDelivery to small large p node race.delivery → ⊥

    refuted : (source y get : Event) (p owner key : ℕ) → image to y ≡ get → skip r p ≡ owner → same_node small p y.proc ≡ false → Refutes source p (node_of small y.proc) get owner key
    refuted source y get p owner key at own away =
        subst (λ o. Refutes source p (node_of small y.proc) get o key) own (subst (λ g. Refutes source p (node_of small y.proc) g (skip r p) key) at
        (λ race kept. (embeddings_keep_findings to small large embeds).delivery_races source y p key race away kept (settled r can.is)))

    -- the get-now that races, where it is an image
    reader : (get : Event) (owner key e : ℕ) → kind large get ≡ Some (GetNow owner key) → slice_get (marks_of pattern coding cast get.proc) get.at ≡ Some e → (get.proc ≡ r → ⊥) → (e ≡ r → ⊥) →
        (y : Event) × (p : ℕ) × (own : ℕ) × (image to y ≡ get) × (skip r p ≡ owner) × (to.key own ≡ key) × (y.proc < process_count small)
    reader get owner key e is mark not_reader not_turn =
        let i = is_image pattern coding cast r role can get e mark not_reader not_turn in
        let b = event_back to small large embeds i.0 _ (ap (kind large) i.1 ∙ is) in
        let k = now_back to b.0 owner key b.2 in
        (i.0, k.0, k.1, i.1, k.2, k.3, process_within small i.0.proc i.0.at _ b.1)

    -- a process of the large plan, and where it is without r
    node_kept : (y get : Event) → y.proc < process_count small → image to y ≡ get → node_of small y.proc ≡ node_of large get.proc
    node_kept y get lt at = sym (node_same pattern coding cast r role can y.proc lt) ∙ ap (λ (v : Event). node_of large v.proc) at

    apart_there : (y get : Event) (p owner : ℕ) → y.proc < process_count small → p < process_count small → image to y ≡ get → skip r p ≡ owner → same_node large owner get.proc ≡ false →
        same_node small p y.proc ≡ false
    apart_there y get p owner lt ltp at own other =
        ap (λ n. n == node_of small y.proc) (sym (node_same pattern coding cast r role can p ltp) ∙ ap (node_of large) own)
        ∙ ap (λ n. node_of large owner == n) (node_kept y get lt at) ∙ other

    owner_kept : (p owner : ℕ) → skip r p ≡ owner → owner < process_count large → p < process_count small
    owner_kept p owner own lt = within_small p (omega (arith, lt, own))

    fence_refutes : (source get : Event) (owner key : ℕ) (f : IsDeliveryRace large source get owner key) (members : List ℕ) (j : ℕ) → f.delivery ≡ ByFence members j →
        (b : FenceDelivers large owner key (node_of large get.proc) members j) → (m : ℕ) → is_member members m ≡ true → node_of large m ≡ node_of large get.proc → (eg e : ℕ) →
        slice_get (marks_of pattern coding cast get.proc) get.at ≡ Some eg → slice_get (marks_of pattern coding cast owner) b.away.at ≡ Some e → (get.proc ≡ r → ⊥) → (eg ≡ r → ⊥) →
        ((owner ≡ r → ⊥) → (e ≡ r → ⊥) × (m ≡ r → ⊥)) → ⊥
    fence_refutes source get owner key f members j is b m m_in m_there eg e mark_get mark_arrival not_reader not_turn others =
        let w = reader get owner key eg f.is mark_get not_reader not_turn in
        let y = w.0 in
        let p = w.1 in
        let at = w.3 in
        let own = w.4 in
        let not_owner : owner ≡ r → ⊥ = λ s. skip_not r p (own ∙ s) in
        let apart = others not_owner in
        let mine : Event = record { proc = owner; at = b.away.at } in
        let i = is_image pattern coding cast r role can mine e mark_arrival not_owner apart.0 in
        let proc_is : i.0.proc ≡ p = skip_one r i.0.proc p (ap (λ (v : Event). v.proc) i.1 ∙ sym own) in
        let arrival : IsArrival large members j (image to i.0) = subst (λ v. IsArrival large members j v) (sym i.1) b.away.arrival in
        let within_m = mate_within large members j mine m b.away.full b.away.arrival m_in in
        let ltp = owner_kept p owner own (process_within large owner b.away.at _ b.away.arrival.is) in
        let kept : IsKeptDelivery to small large p (node_of small y.proc) (ByFence members j) = record {
          own_at = i.0.at;
          arrival = subst (λ q. IsArrival large members j (image to (record { proc = q; at = i.0.at }))) proc_is arrival;
          mate = back r m;
          mate_is_member = ap (is_member members) (skip_back r m apart.1) ∙ m_in;
          mate_there = node_there m within_m apart.1 ∙ m_there ∙ sym (node_kept y get w.6 at);
        } in
        refuted source y get p owner key at own (apart_there y get p owner w.6 ltp at own f.other) f (subst (λ d. IsKeptDelivery to small large p (node_of small y.proc) d) (sym is) kept)

    -- a get of an image's key, by another process, isn't in the turn for r
    pub get_turn : (v e owner key own : ℕ) → Origin pattern coding cast v e (Get owner key) → (v ≡ r → ⊥) → (owner ≡ r → ⊥) → to.key own ≡ key → e ≡ r → ⊥
    get_turn v e owner key own (InScript line known same h) not_v not_owner key_is s = not_v (sym same ∙ s)
    get_turn v e owner key own (InLoop other line known l i h) not_v not_owner key_is s =
        let g = get_line coding cast v e line owner key h in
        go g.0 (subst (IsLoopLine other) g.2 l) g.3
      where
        word : Word
        word = (get_line coding cast v e line owner key h).1

        by_key : names_each word.indices ≡ true → ⊥
        by_key named =
            let g = get_line coding cast v e line owner key h in
            code_not coding r own word.base (map (who cast v e) word.indices) (ap (is_member (map (who cast v e) word.indices)) (sym s) ∙ each_in cast v e word.indices named)
            (key_is ∙ sym g.4)

        go : (whose : Who) → names_each (whose ∷ word.indices) ≡ true → who cast v e whose ≡ owner → ⊥
        go Each named is = not_owner (sym is ∙ s)
        go Self named is = by_key named
        go (Only single) named is = by_key named

    get_refutes : (source get : Event) (owner key : ℕ) (f : IsDeliveryRace large source get owner key) (g : Event) → f.delivery ≡ ByGet g →
        (b : GetDelivers large owner key (node_of large get.proc) g) → (eg e : ℕ) → slice_get (marks_of pattern coding cast get.proc) get.at ≡ Some eg →
        slice_get (marks_of pattern coding cast g.proc) g.at ≡ Some e → Origin pattern coding cast g.proc e (Get owner key) → owner < process_count large →
        (get.proc ≡ r → ⊥) → (eg ≡ r → ⊥) → (g.proc ≡ r → ⊥) → ⊥
    get_refutes source get owner key f g is b eg e mark_get mark_g origin lto not_reader not_turn not_getter =
        let w = reader get owner key eg f.is mark_get not_reader not_turn in
        let y = w.0 in
        let p = w.1 in
        let at = w.3 in
        let own = w.4 in
        let not_owner : owner ≡ r → ⊥ = λ s. skip_not r p (own ∙ s) in
        let i = is_image pattern coding cast r role can g e mark_g not_getter (get_turn g.proc e owner key w.2 origin not_getter not_owner w.5) in
        let lt = process_within large g.proc g.at _ b.away.is in
        let path : skip r i.0.proc ≡ g.proc = ap (λ (v : Event). v.proc) i.1 in
        let kept : IsKeptDelivery to small large p (node_of small y.proc) (ByGet g) =
        (i.0, i.1, node_kept i.0 g (within_small i.0.proc (omega (arith, lt, path))) i.1 ∙ b.there ∙ sym (node_kept y get w.6 at)) in
        refuted source y get p owner key at own (apart_there y get p owner w.6 (owner_kept p owner own lto) at own f.other) f
        (subst (λ d. IsKeptDelivery to small large p (node_of small y.proc) d) (sym is) kept)

  -- the turn of a fence's call: the caller's own, or for a process of another role; or the fence has nobody of the role but these two
  pub turn_case : (p e : ℕ) (members : List ℕ) (collect : Bool) → Origin pattern coding cast p e (Arrive members collect) →
      ((e ≡ p) ⊎ (is_member (group role cast.roles) e ≡ false)) ⊎
      ((r : ℕ) → CanGo pattern cast r role → (p ≡ r → ⊥) → (e ≡ r → ⊥) → is_member members r ≡ false)
  turn_case p e members collect (InScript line known same h) = inl (inl same)
  turn_case p e members collect (InLoop other line known l i h) = elim (cases_eq other role) [
    | inl s ↦ inr (λ r can np ne.
        let f = fence_line coding cast p e line members collect h in
        let knows = subst (KnowsLine pattern.single) f.2 known in
        let loop = subst (IsLoopLine other) f.2 l in
        sym (ap (λ ms. is_member ms r) f.3) ∙ member_set (members_in cast p e f.0) r
        ∙ sym (ap (λ v. is_member (members_in cast v e f.0) r) (skip_back r p np)) ∙ sym (ap (λ v. is_member (members_in cast (skip r (back r p)) v f.0) r) (skip_back r e ne))
        ∙ items_r pattern cast r role can (back r p) (back r e) f.0 knows ∙ sym (ap (λ v. has_every v f.0) s) ∙ loop.1)
    | inr differ ↦ inl (inr (elim (cases_Bool (is_member (group role cast.roles) e)) [
      | inl t ↦ absurd (not_both (slice_get cast.roles e) (sym (group_member role cast.roles e) ∙ t) (sym (group_member other cast.roles e) ∙ i) differ)
      | inr f ↦ f
    ]))
  ]
    where
      not_both : (o : Option ℕ) → plays o role ≡ true → plays o other ≡ true → (other ≡ role → ⊥) → ⊥
      not_both None a b differ = true≢false (sym a)
      not_both (Some x) a b differ = differ (sym (eqb-true x other b) ∙ eqb-true x role a)

  pub of_role : (r : ℕ) → CanGo pattern cast r role → is_member (group role cast.roles) r ≡ true
  of_role r can = group_member role cast.roles r ∙ ap (λ o. plays o role) can.is ∙ eq-eqb role role refl

  pub no_delivery_race : (source get : Event) (owner key : ℕ) → IsDeliveryRace large source get owner key → ⊥
  no_delivery_race source get owner key f = by_delivery f.delivery refl
    where
      any : (r : ℕ) × CanGo pattern cast r role × (r ≡ 0 → ⊥) × (r ≡ 0 → ⊥) × (r ≡ 0 → ⊥)
      any = spare pattern coding cast role lawful cast_is four settled 0 0 0

      mark_get : (e : ℕ) × (slice_get (marks_of pattern coding cast get.proc) get.at ≡ Some e)
      mark_get = mark_at pattern coding cast get.proc get.at _ f.is

      by_delivery : (d : Delivery) → f.delivery ≡ d → ⊥
      by_delivery (ByFence members j) is =
          let b : FenceDelivers large owner key (node_of large get.proc) members j = (subst (λ d. Delivers large owner key (node_of large get.proc) d) is f.delivers).brings_it in
          let m = mate_on large members (node_of large get.proc) b.reaches in
          let a = b.away.arrival in
          let e = mark_at pattern coding cast owner b.away.at _ a.is in
          let origin = origin_of pattern coding cast any.0 role any.1 owner b.away.at e.0 _ a.is e.1 in
          elim (turn_case owner e.0 members a.collect origin) [
            | inl out ↦ (
                let s = spare pattern coding cast role lawful cast_is four settled get.proc mark_get.0 m.0 in
                fence_refutes s.0 s.1 source get owner key f members j is b m.0 m.1 m.2 mark_get.0 e.0 mark_get.1 e.1 (λ q. s.2 (sym q)) (λ q. s.3 (sym q))
                (λ not_owner. (
                  λ q. elim out [
                    | inl own ↦ not_owner (sym own ∙ q)
                    | inr none ↦ true≢false (sym (of_role s.0 s.1) ∙ ap (is_member (group role cast.roles)) (sym q) ∙ none)
                  ],
                  λ q. s.4 (sym q),
                )))
            | inr none ↦ (
                let s = spare pattern coding cast role lawful cast_is four settled get.proc mark_get.0 e.0 in
                fence_refutes s.0 s.1 source get owner key f members j is b m.0 m.1 m.2 mark_get.0 e.0 mark_get.1 e.1 (λ q. s.2 (sym q)) (λ q. s.3 (sym q))
                (λ not_owner. (λ q. s.4 (sym q), λ q. true≢false (sym m.1 ∙ ap (is_member members) q ∙ none s.0 s.1 not_owner (λ q'. s.4 (sym q'))))))
          ]
      by_delivery (ByGet g) is =
          let b : GetDelivers large owner key (node_of large get.proc) g = (subst (λ d. Delivers large owner key (node_of large get.proc) d) is f.delivers).brings_it in
          let e = mark_at pattern coding cast g.proc g.at _ b.away.is in
          let origin = origin_of pattern coding cast any.0 role any.1 g.proc g.at e.0 _ b.away.is e.1 in
          let s = spare pattern coding cast role lawful cast_is four settled get.proc mark_get.0 g.proc in
          let lto = (mate_of large owner key get f.delivery f.delivers.brings_it).owner_within in
          get_refutes s.0 s.1 source get owner key f g is b mark_get.0 e.0 mark_get.1 e.1 origin lto (λ q. s.2 (sym q)) (λ q. s.3 (sym q)) (λ q. s.4 (sym q))
