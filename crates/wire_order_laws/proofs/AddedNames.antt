-- A plan with added names that order nothing: its edges, live events and chains, beside those of the plan without them.
use Rattle.std.proofs.Common.{◌≡◌, ℕ, zero, suc, ◌<◌, ◌≤◌, List, [], ◌∷◌, true, ◌||◌, nat_le, Option, Some, None, is_some, ◌⊎◌, inl, inr, refl, sym, ap, ◌∙◌, subst, arith, eq-eqb, ne_eqb}
use Rattle.std.specs.Prelude.{slice_get}
use Rattle.std.specs.List.{list_all}
use Rattle.std.proofs.lemmas.Bool.{cond-true, cond-false, cases_eq, cases_lt, true≢false, false_from_ne_true}
use Rattle.std.proofs.lemmas.Option.{none-some, same_Some}
use Rattle.wire_runs.specs.Plan.{Leave, Get, Publish, LookupWait, Unpublish, UnpublishAll}
use Rattle.wire_runs.specs.Plan.{Plan, Event, Kind, kind_at, kind, event_count}
use Rattle.wire_runs.specs.Puts.{own, stored, put_count}
use Rattle.wire_runs.specs.Fences.{arrivals, is_full}
use Rattle.wire_runs.specs.Names.{takes_name}
use Rattle.wire_runs.specs.Order.{IsArrival, PublishesOnce, Edge, Follows, Meets, Feeds, Announces, may_come, Live, live, Before, edge, further}
use Rattle.wire_runs.specs.Embeddings.{Renaming, image, image_kind, IsSetOf, IsNameOf, IsEmbedding}
use Rattle.wire_runs.specs.Parts.{Piece, Kept, Left, kept_kinds, all_kinds, place_in, IsPartEach, in_place}
use Rattle.wire_runs.proofs.Basics.{event_within, stores_commit}
use Rattle.wire_runs.proofs.Due.{coming_event, live_source, place_path}
use Rattle.wire_runs.proofs.Histories.{before_live, after_live, joined, same_process, no_cycle}
use Rattle.wire_runs.proofs.FenceChains.{last_edge}
use Rattle.wire_runs.proofs.Images.{event_at, place_back, place_up, event_back, own_some, stored_end_some, puts_end, stores_back, arrives_end, arrival_back}
use Rattle.wire_runs.proofs.EmbeddedOrder.{live_back}
use Rattle.wire_runs.proofs.MoreReads.{kind_in_place}
use Rattle.wire_runs.proofs.Parts.{rising}
use Rattle.wire_order_laws.specs.LessOrder.{LacksWaits, HasLessOrder}
use Rattle.wire_order_laws.specs.OrderThere.{MayAdd, AddsNames, IsAhead, IsBehind, AwaitsNew, HearsOf, AddsNoOrder}
use Rattle.wire_order_laws.proofs.LessOrder.{each as each_part, e as stands_in, kind_into as kind_there}

adds_lack : (small large : Plan) (pieces : List Piece) → AddsNames small large pieces → LacksWaits small large pieces
adds_lack small large [] a = tt
adds_lack small large (Kept k ∷ pieces) a = adds_lack small large pieces a
adds_lack small large (Left (Publish name) ∷ pieces) a = (a.0, adds_lack small large pieces a.1)
adds_lack small large (Left (LookupWait name) ∷ pieces) a = (a.0.0, adds_lack small large pieces a.1)
adds_lack small large (Left _ ∷ pieces) a = absurd a.0

-- each event is kept or added
abbrev Stands : Renaming → List Piece → ℕ → Kind → Type 0
Stands to pieces i k = (n : ℕ) × (place_in pieces n ≡ i) × (own_kind : Kind) × (slice_get (kept_kinds pieces) n ≡ Some own_kind) × (image_kind to own_kind ≡ k)

stands_or_added : (to : Renaming) (small large : Plan) (pieces : List Piece) → AddsNames small large pieces → (i : ℕ) (k : Kind) → slice_get (all_kinds to pieces) i ≡ Some k → Stands to pieces i k ⊎ MayAdd small large k
stands_or_added to small large [] l i k is = absurd (none-some k is)
stands_or_added to small large (Kept m ∷ pieces) l zero k is = inl (0, refl, m, refl, same_Some _ _ is)
stands_or_added to small large (Kept m ∷ pieces) l (suc i) k is = elim (stands_or_added to small large pieces l i k is) [ inl s ↦ inl (suc s.0, ap suc s.1, s.2, s.3, s.4) | inr r ↦ inr r ]
stands_or_added to small large (Left m ∷ pieces) l zero k is = inr (subst (λ v. MayAdd small large v) (same_Some _ _ is) l.0)
stands_or_added to small large (Left m ∷ pieces) l (suc i) k is = elim (stands_or_added to small large pieces l.1 i k is) [ inl s ↦ inl (s.0, ap suc s.1, s.2, s.3, s.4) | inr r ↦ inr r ]

module _ (small large : Plan) (pieces : ℕ → List Piece) (adds : AddsNoOrder small large pieces) where
  abbrev to : Renaming
  to = in_place pieces

  pub less : HasLessOrder small large pieces
  less = record { kept = adds.kept; all = adds.all; lacks = λ p. adds_lack small large (pieces p) (adds.adds p); nodes = adds.nodes; keeps = adds.keeps }

  each : IsPartEach to small large pieces
  each = each_part small large pieces less

  pub e : IsEmbedding to small large
  e = stands_in small large pieces less

  -- an event of the large plan is an image, or added
  pub spot : (z : Event) (k : Kind) → kind large z ≡ Some k → ((y : Event) × (image to y ≡ z) × (kind small y ≡ Some k)) ⊎ MayAdd small large k
  unfolding kind_at
  spot z k is = elim (stands_or_added to small large (pieces z.proc) (adds.adds z.proc) z.at k (ap (λ ks. slice_get ks z.at) (sym (adds.all z.proc)) ∙ is)) [
    | inl s ↦ inl (record { proc = z.proc; at = s.0 }, (λ t. record { proc = z.proc; at = s.1 t }), ap (λ ks. slice_get ks s.0) (adds.kept z.proc) ∙ s.3 ∙ ap Some (sym (kind_in_place pieces s.2) ∙ s.4))
    | inr r ↦ inr r
  ]

  pub kind_into : (y : Event) (k : Kind) → kind small y ≡ Some k → kind large (image to y) ≡ Some k
  kind_into = kind_there small large pieces less

  -- two events with one image are one
  one_image : (x y : Event) → image to x ≡ image to y → x ≡ y
  one_image x y s =
      let procs : x.proc ≡ y.proc = ap (λ (v : Event). v.proc) s in
      let places : place_in (pieces x.proc) x.at ≡ place_in (pieces y.proc) y.at = ap (λ (v : Event). v.at) s in
      place_path x y.proc x.at procs refl ∙ ap (λ n. record { proc = y.proc; at = n }) (same_place y.proc x.at y.at (ap (λ p. place_in (pieces p) x.at) (sym procs) ∙ places))
    where
      up : (p n m : ℕ) → n < m → place_in (pieces p) n < place_in (pieces p) m
      up p n zero lt = absurd (omega (arith, lt))
      up p n (suc m) lt = elim (cases_eq n m) [
        | inl is ↦ subst (λ k. place_in (pieces p) k < place_in (pieces p) (suc m)) (sym is) (rising to small large pieces each p m)
        | inr ne ↦ (let rest = up p n m (omega (arith, lt, ne)) in let step = rising to small large pieces each p m in omega (arith, rest, step))
      ]

      same_place : (p n m : ℕ) → place_in (pieces p) n ≡ place_in (pieces p) m → n ≡ m
      same_place p n m s = elim (cases_eq n m) [
        | inl e ↦ e
        | inr ne ↦ absurd (elim (cases_lt n m) [
          | inl lt ↦ (let u = up p n m lt in omega (arith, u, s))
          | inr ge ↦ (let u = up p m n (omega (arith, ge, ne)) in omega (arith, u, s))
        ])
      ]

  pub kind_back : (y : Event) (k : Kind) → kind large (image to y) ≡ Some k → kind small y ≡ Some k
  kind_back y k is = let o = event_back to small large e y k is in o.1 ∙ ap Some (sym (kind_in_place pieces o.0) ∙ o.2)

  arrival_here : (z : Event) (members : List ℕ) (j : ℕ) → IsArrival large members j (image to z) → IsArrival small members j z
  arrival_here z members j a = let b = arrival_back to small large e z members j a in subst (λ ms. IsArrival small ms j z) b.1 b.2

  -- of an arrival in the large plan, the event of which it is the image
  pub arrival_spot : (z : Event) (members : List ℕ) (j : ℕ) → IsArrival large members j z → (y : Event) × (image to y ≡ z) × IsArrival small members j y
  arrival_spot z members j a = elim (spot z _ a.is) [ inl s ↦ (s.0, s.1, arrival_here s.0 members j (subst (λ v. IsArrival large members j v) (sym s.1) a)) | inr r ↦ absurd r ]

  pub full_same : (members : List ℕ) (j : ℕ) → IsSetOf small members → is_full large members j ≡ is_full small members j
  full_same members j u = ap (λ f. list_all f members) (λ t m. nat_le j (arrives_end to small large e members m u t))

  pub once_back : (x : Event) (name : ℕ) → PublishesOnce large (image to x) name → PublishesOnce small x name
  once_back x name o = record {
    is = kind_back x _ o.is;
    only = λ y is. one_image y x (o.only (image to y) (kind_into y _ is));
    stays = λ y. false_from_ne_true _ (λ t. taken y (kind small y) refl t);
  }
    where
      taken : (y : Event) (k : Option Kind) → kind small y ≡ k → takes_name small name y k ≡ true → ⊥
      taken y (Some (Unpublish n)) is t = true≢false (sym (ap (takes_name large name (image to y)) (kind_into y _ is) ∙ t) ∙ o.stays (image to y))
      taken y (Some UnpublishAll) is t = true≢false (sym (ap (takes_name large name (image to y)) (kind_into y _ is) ∙ e.publish y.proc name (x, _, kind_back x _ o.is, refl) ∙ t) ∙ o.stays (image to y))
      taken y None is t = true≢false (sym t)
      taken y (Some _) is t = true≢false (sym t)

  -- what is added is no image
  waits_alone : (y : Event) (name : ℕ) → AwaitsNew small large (image to y) name → ⊥
  waits_alone y name w = w.new (y, _, kind_back y _ w.is, refl)

  publishes_alone : (y : Event) (name : ℕ) → (IsNameOf small name → ⊥) → kind large (image to y) ≡ Some (Publish name) → ⊥
  publishes_alone y name new is = new (y, _, kind_back y _ is, refl)

  -- an edge goes along a process, or between images, or from an added publish to a wait
  abbrev Along : Event → Event → Type 0
  Along z w = (z.proc ≡ w.proc) × (suc z.at ≡ w.at)

  abbrev Between : Event → Event → Type 0
  Between z w = (x : Event) × (y : Event) × (image to x ≡ z) × (image to y ≡ w)

  abbrev Tells : Event → Event → Type 0
  Tells z w = (name : ℕ) × PublishesOnce large z name × AwaitsNew small large w name

  ways : (z w : Event) → Edge large z w → (Along z w ⊎ Between z w) ⊎ Tells z w
  ways z w (Follows same next) = inl (inl (same, next))
  ways z w (Meets members is a) = elim (spot w _ is) [ inl y ↦ elim (spot z _ a.is) [ inl x ↦ inl (inr (x.0, y.0, x.1, y.1)) | inr r ↦ absurd r ] | inr r ↦ absurd r ]
  ways z w (Feeds key is other once stores) = elim (spot w _ is) [
    | inl y ↦ elim (spot z _ (stores_commit large z key stores)) [ inl x ↦ inl (inr (x.0, y.0, x.1, y.1)) | inr r ↦ absurd r ]
    | inr r ↦ absurd r
  ]
  ways z w (Announces name is once) = elim (spot w _ is) [
    | inl y ↦ elim (spot z _ once.is) [ inl x ↦ inl (inr (x.0, y.0, x.1, y.1)) | inr r ↦ absurd (r.1 (y.0, _, y.2, refl)) ]
    | inr r ↦ inr (name, once, record { is = is; new = r.1 })
  ]

  -- an edge between images is one in the small plan
  edge_back : (x y : Event) → Edge large (image to x) (image to y) → Edge small x y
  edge_back x y (Follows same next) =
      let there : suc (place_in (pieces y.proc) x.at) ≡ place_in (pieces y.proc) y.at = ap (λ p. suc (place_in (pieces p) x.at)) (sym same) ∙ next in
      let lt = place_back to small large e y.proc x.at y.at (omega (arith, there)) in
      Follows same (elim (cases_eq (suc x.at) y.at) [
        | inl s ↦ s
        | inr ne ↦ absurd (
            let a = e.rising y.proc x.at in
            let b = place_up to small large e y.proc (suc x.at) y.at (omega (arith, lt, ne)) in
            omega (arith, a, b, there))
      ])
  edge_back x y (Meets members is a) =
      let leaves = kind_back y _ is in
      let within = event_within small y.proc y.at _ leaves in
      Meets members leaves (subst (λ j. IsArrival small members j x) (e.arrives members y.proc y.at (y, _, leaves, refl) (omega (arith, within))) (arrival_here x members _ a))
  edge_back x y (Feeds key is other once stores) =
      let gets = kind_back y _ is in
      Feeds key gets other (sym (puts_end to small large e x.proc key (y, _, gets, refl)) ∙ once) (stores_back to small large e x key (y, _, gets, refl) stores)
  edge_back x y (Announces name is once) = Announces name (kind_back y _ is) (once_back x name once)

  -- what may come has an image that may come
  may_into : (y : Event) (k : Kind) → kind small y ≡ Some k → may_come small y (Some k) ≡ true → may_come large (image to y) (kind large (image to y)) ≡ true
  may_into y k is h = ap (may_come large (image to y)) (kind_into y k is) ∙ go k is h
    where
      go : (k : Kind) → kind small y ≡ Some k → may_come small y (Some k) ≡ true → may_come large (image to y) (Some k) ≡ true
      go (Get owner key) is h =
          let within = event_within small y.proc y.at _ is in
          elim (cases_eq y.proc owner) [
            | inl same ↦
                (let le : y.at ≤ event_count small owner = subst (λ p. y.at ≤ event_count small p) same (omega (arith, within)) in
                let own_is : is_some (own large owner key (place_in (pieces y.proc) y.at)) ≡ is_some (own small owner key y.at) =
                ap (λ p. is_some (own large owner key (place_in (pieces p) y.at))) same ∙ own_some to small large e owner key y.at (y, _, is, refl) le in
                cond-true _ _ _ (eq-eqb y.proc owner same) ∙ own_is ∙ subst (λ b. b ≡ true) (cond-true _ _ _ (eq-eqb y.proc owner same)) h)
            | inr other ↦
                (cond-false _ _ _ (ne_eqb y.proc owner other)
                ∙ ap (λ b. b || nat_le 2 (put_count large owner key (event_count large owner))) (stored_end_some to small large e owner key (y, _, is, refl))
                ∙ ap (λ n. is_some (stored small owner key (event_count small owner)) || nat_le 2 n) (puts_end to small large e owner key (y, _, is, refl))
                ∙ subst (λ b. b ≡ true) (cond-false _ _ _ (ne_eqb y.proc owner other)) h)
          ]
      go (Leave members) is h =
          let within = event_within small y.proc y.at _ is in
          ap (is_full large members) (e.arrives members y.proc y.at (y, _, is, refl) (omega (arith, within))) ∙ full_same members (arrivals small y.proc members y.at) (y, _, is, refl) ∙ h
      go _ is h = refl

  -- an added event is live where the event before it is, and the publish that it waits for
  added_live : (z : Event) (k : Kind) → kind large z ≡ Some k → MayAdd small large k → ((x : Event) → Along x z → Live large x) →
      ((x : Event) (name : ℕ) → PublishesOnce large x name → AwaitsNew small large z name → Live large x) → Live large z
  added_live z k is r before told = live (ap (may_come large z) is ∙ may k r) (λ x f. elim (ways x z f) [
    | inl w ↦ elim w [
      | inl a ↦ before x a
      | inr b ↦ absurd (no_image k r b.1 b.3 is)
    ]
    | inr t ↦ told x t.0 t.1 t.2
  ])
    where
      may : (l : Kind) → MayAdd small large l → may_come large z (Some l) ≡ true
      may (Publish name) r = refl
      may (LookupWait name) r = refl
      may _ r = absurd r

      no_image : (l : Kind) → MayAdd small large l → (y : Event) → image to y ≡ z → kind large z ≡ Some l → ⊥
      no_image (Publish name) r y s is = publishes_alone y name r.1 (ap (kind large) s ∙ is)
      no_image (LookupWait name) r y s is = waits_alone y name (record { is = ap (kind large) s ∙ is; new = r.1 })
      no_image _ r y s is = r

  -- of a process the first events, as many as n: the images among them are live, and what their added waits wait for
  record FirstLive (p n : ℕ) : Type 0 where
    within : n ≤ event_count large p
    images : (v : Event) → v.proc ≡ p → (image to v).at < n → Live large (image to v)
    told : (w u : Event) (name : ℕ) → w.proc ≡ p → w.at < n → AwaitsNew small large w name → PublishesOnce large u name → Live large u

  next_live : (p n i : ℕ) → FirstLive p n → i < n → ((x : Event) → Along x (record { proc = p; at = i }) → Live large x) → Live large (record { proc = p; at = i })
  next_live p n i first lt before =
      let within = first.within in
      let k = event_at large p i (omega (arith, lt, within)) in
      elim (spot (record { proc = p; at = i }) k.0 k.1) [
        | inl s ↦ (
            let at : (image to s.0).at ≡ i = ap (λ (v : Event). v.at) s.1 in
            subst (λ v. Live large v) s.1 (first.images s.0 (ap (λ (v : Event). v.proc) s.1) (omega (arith, lt, at))))
        | inr r ↦ added_live (record { proc = p; at = i }) k.0 k.1 r before (λ u name once w. first.told (record { proc = p; at = i }) u name refl lt w once)
      ]

  first_live : (p n i : ℕ) → FirstLive p n → i < n → Live large (record { proc = p; at = i })
  first_live p n zero first lt = next_live p n zero first lt (λ x a. absurd (let next = a.1 in omega (arith, next)))
  first_live p n (suc i) first lt =
      let rest = first_live p n i first (omega (arith, lt)) in
      next_live p n (suc i) first lt (λ x a. let next = a.1 in subst (λ v. Live large v) (sym (place_path x p i a.0 (omega (arith, next)))) rest)

  -- what is before an event has live images
  abbrev IsPastLive : Event → Type 0
  IsPastLive y = (x : Event) → Before small x y → Live large (image to x)

  earlier_live : (w z : Event) → Live large z → w.proc ≡ z.proc → w.at < z.at → Live large w
  earlier_live w z l same lt = before_live (same_process large w z l same lt)

  -- then a publish of which it is told is live
  publish_live : (u y : Event) → HearsOf small large pieces u y → IsPastLive y → Live large u
  publish_live u y t past = first_live u.proc (suc u.at) u.at (record {
    within = (let lt = event_within large u.proc u.at _ t.publishes.is in omega (arith, lt));
    images = λ v same lt. past v (adds.known u y t v (same, image_ahead v same lt));
    told = λ w z name same lt waits once.
        let x = adds.passed u y t w name waits same (wait_ahead w name same lt waits) in
        let way : w.proc ≡ (image to x.0).proc = sym x.1.0 in
        live_source (earlier_live w (image to x.0) (past x.0 x.2) way x.1.1) (Announces name waits.is once);
  }) (omega arith)
    where
      image_ahead : (v : Event) → v.proc ≡ u.proc → (image to v).at < suc u.at → (image to v).at < u.at
      image_ahead v same lt = elim (cases_eq (image to v).at u.at) [
        | inl at ↦ absurd (publishes_alone v t.name t.waits.new (ap (kind large) (place_path (image to v) u.proc u.at same at) ∙ t.publishes.is))
        | inr ne ↦ omega (arith, lt, ne)
      ]

      wait_ahead : (w : Event) (name : ℕ) → w.proc ≡ u.proc → w.at < suc u.at → AwaitsNew small large w name → w.at < u.at
      wait_ahead w name same lt waits = elim (cases_eq w.at u.at) [
        | inl at ↦ absurd (not_both name t.name (sym waits.is ∙ ap (kind large) (place_path w u.proc u.at same at) ∙ t.publishes.is))
        | inr ne ↦ omega (arith, lt, ne)
      ]
        where
          not_both : (a b : ℕ) → Some (LookupWait a) ≡ Some (Publish b) → ⊥
          not_both a b h = cc

  live_from : (y : Event) → Live small y → ((z : Event) → Edge small z y → IsPastLive z × Live large (image to z)) → IsPastLive y × Live large (image to y)
  live_from y l sources = (past, here)
    where
      past : IsPastLive y
      past x b = (let f = last_edge b in elim f.2 [
        | inl s ↦ subst (λ v. Live large (image to v)) (sym s) (sources f.0 f.1).1
        | inr c ↦ (sources f.0 f.1).0 x c
      ])

      ahead : (x : Event) → Along x (image to y) → Live large x
      ahead x a = (
          let next = a.1 in
          let k = coming_event small y (kind small y) (may l) in
          let within = event_within large y.proc (image to y).at _ (kind_into y k.0 k.1) in
          subst (λ v. Live large v) (sym (place_path x y.proc x.at a.0 refl)) (first_live y.proc (image to y).at x.at (record {
            within = omega (arith, within);
            images = λ v same lt. past v (same_process small v y l same (place_back to small large e y.proc v.at y.at (subst (λ p. place_in (pieces p) v.at < place_in (pieces y.proc) y.at) same lt)));
            told = λ w u name same lt waits once. publish_live u y (record { name = name; publishes = once; wait = w; waits = waits; behind = (sym same, lt); alive = l }) past;
          }) (omega (arith, next))))
        where
          may : Live small y → may_come small y (kind small y) ≡ true
          may (live m from) = m

      here : Live large (image to y)
      here = go l
        where
          go : Live small y → Live large (image to y)
          go (live may from) = (
              let k = coming_event small y (kind small y) may in
              live (may_into y k.0 k.1 (sym (ap (may_come small y) k.1) ∙ may)) (λ x f. elim (ways x (image to y) f) [
                | inl w ↦ elim w [
                  | inl a ↦ ahead x a
                  | inr b ↦ subst (λ v. Live large v) b.2 (sources b.0 (edge_back b.0 y (subst (λ v. Edge large v (image to y)) (sym b.2) f))).1
                ]
                | inr t ↦ absurd (waits_alone y t.0 t.2)
              ]))

  all_live : {y : Event} → Live small y → IsPastLive y × Live large (image to y)
  all_live {y = y} (live may from) = live_from y (live may from) (λ z f. all_live (from z f))

  pub live_into : (y : Event) → Live small y → Live large (image to y)
  live_into y l = (all_live l).1

  abbrev IsUpTo : Event → Event → Type 0
  IsUpTo x y = (x ≡ y) ⊎ Before small x y

  on : (x y z : Event) → IsUpTo x y → IsUpTo y z → IsUpTo x z
  on x y z a b = elim a [
    | inl s ↦ subst (λ v. IsUpTo v z) (sym s) b
    | inr c ↦ elim b [ inl s ↦ inr (subst (λ v. Before small x v) s c) | inr d ↦ inr (joined c d) ]
  ]

  alive_there : (x y : Event) → Live small y → IsUpTo x y → Live small x
  alive_there x y l a = elim a [ inl s ↦ subst (λ v. Live small v) (sym s) l | inr b ↦ before_live b ]

  -- an event of the large plan leads to one of the small: what stands ahead of it does, it does itself if it is an image,
  -- and so does something behind each wait that is added up to it
  record Leads (b y : Event) : Type 0 where
    ahead : (x : Event) → IsAhead pieces x b → IsUpTo x y
    self : (x : Event) → image to x ≡ b → IsUpTo x y
    waits : (v : Event) (name : ℕ) → AwaitsNew small large v name → v.proc ≡ b.proc → v.at ≤ b.at → (x : Event) × IsBehind pieces x v × IsUpTo x y

  leads_itself : (y : Event) → Live small y → Leads (image to y) y
  leads_itself y l = record {
    ahead = λ x a. inr (same_process small x y l a.0 (place_back to small large e y.proc x.at y.at (subst (λ p. place_in (pieces p) x.at < place_in (pieces y.proc) y.at) a.0 a.1)));
    self = λ x s. inl (one_image x y s);
    waits = λ v name w same le. (y, (sym same, below v name w same le), inl refl);
  }
    where
      below : (v : Event) (name : ℕ) → AwaitsNew small large v name → v.proc ≡ y.proc → v.at ≤ (image to y).at → v.at < (image to y).at
      below v name w same le = elim (cases_eq v.at (image to y).at) [
        | inl at ↦ absurd (waits_alone y name (subst (λ q. AwaitsNew small large q name) (place_path v y.proc (image to y).at same at) w))
        | inr ne ↦ omega (arith, le, ne)
      ]

  leads_told : (u y : Event) → HearsOf small large pieces u y → Leads u y
  leads_told u y t = record {
    ahead = λ x a. inr (adds.known u y t x a);
    self = λ x s. absurd (publishes_alone x t.name t.waits.new (ap (kind large) s ∙ t.publishes.is));
    waits = λ v name w same le. (let x = adds.passed u y t v name w same (below v name w same le) in (x.0, x.1, inr x.2));
  }
    where
      not_both : (a b : ℕ) → Some (LookupWait a) ≡ Some (Publish b) → ⊥
      not_both a b h = cc

      below : (v : Event) (name : ℕ) → AwaitsNew small large v name → v.proc ≡ u.proc → v.at ≤ u.at → v.at < u.at
      below v name w same le = elim (cases_eq v.at u.at) [
        | inl at ↦ absurd (not_both name t.name (sym w.is ∙ ap (kind large) (place_path v u.proc u.at same at) ∙ t.publishes.is))
        | inr ne ↦ omega (arith, le, ne)
      ]

  leads_back : (a b y : Event) → Along a b → Leads b y → Leads a y
  leads_back a b y along d = (let next = along.1 in record {
    ahead = λ x h. (let lt = h.1 in d.ahead x (h.0 ∙ along.0, omega (arith, lt, next)));
    self = λ x s. (let at : (image to x).at ≡ a.at = ap (λ (v : Event). v.at) s in d.ahead x (ap (λ (v : Event). v.proc) s ∙ along.0, omega (arith, at, next)));
    waits = λ v name w same le. d.waits v name w (same ∙ along.0) (omega (arith, le, next));
  })

  abbrev IsLed : Event → Event → Type 0
  IsLed x w = (y : Event) → Leads w y → Live small y → IsUpTo x y

  led_on : (x v w : Event) → Edge large v w → IsLed x v → IsLed x w
  led_on x v w f rest y d l = elim (ways v w f) [
    | inl way ↦ elim way [
      | inl a ↦ rest y (leads_back v w y a d) l
      | inr b ↦ (
          let f' : Edge small b.0 b.1 = edge_back b.0 b.1 (subst (λ q. Edge large q (image to b.1)) (sym b.2) (subst (λ q. Edge large v q) (sym b.3) f)) in
          let r = d.self b.1 b.3 in
          let target = alive_there b.1 y l r in
          let source = live_source target f' in
          let up = rest b.0 (subst (λ q. Leads q b.0) b.2 (leads_itself b.0 source)) source in
          on x b.0 y up (on b.0 b.1 y (inr (edge source f' target)) r))
    ]
    | inr t ↦ (
        let r = d.waits w t.0 t.2 refl (omega arith) in
        let there = alive_there r.0 y l r.2 in
        let told : HearsOf small large pieces v r.0 = record { name = t.0; publishes = t.1; wait = w; waits = t.2; behind = r.1; alive = there } in
        on x r.0 y (rest r.0 (leads_told v r.0 told) there) r.2)
  ]

  led : (x : Event) {z w : Event} → Before large z w → image to x ≡ z → IsLed x w
  led x (edge {x = z} {y = w} l f m) s = led_on x z w f (λ y d alive. d.self x s)
  led x (further {y = v} {z = w} b f m) s = led_on x v w f (led x b s)

  pub chain_back : (x y : Event) → Before large (image to x) (image to y) → Before small x y
  chain_back x y b =
      let l = live_back to small large e y (after_live b) in
      elim (led x b refl y (leads_itself y l) l) [
        | inl s ↦ absurd (no_cycle (before_live b) (subst (λ v. Before large (image to x) (image to v)) (sym s) b))
        | inr c ↦ c
      ]
