-- More reads take no finding away: their only edges are those along their process.
use Rattle.std.proofs.Common.{◌≡◌, ℕ, zero, suc, ◌<◌, ◌≤◌, List, [], ◌∷◌, Bool, true, false, ◌==◌, ◌||◌, nat_le, Option, Some, None, is_some, ◌⊎◌, inl, inr, refl, sym, ap, ◌∙◌, subst, arith, eq-eqb, eqb-true, ne_eqb}
use Rattle.std.specs.Prelude.{option_map, slice_get}
use Rattle.std.specs.List.{list_all}
use Rattle.std.proofs.lemmas.Bool.{cond-true, cond-false, cases_eq, cases_lt, or_cases, or_left, or_right, true≢false, false_from_ne_true}
use Rattle.std.proofs.lemmas.Option.{none-some, same_Some}
use Rattle.wire_runs.specs.Plan.{Put, Commit, Arrive, Leave, Get, GetNow, Publish, Lookup, LookupWait, Unpublish, UnpublishAll, Fixed}
use Rattle.wire_runs.specs.Plan.{Plan, Event, Kind, kind_at, kind, event_count, node_of, same_node, admits}
use Rattle.wire_runs.specs.Puts.{own, stored, put_count}
use Rattle.wire_runs.specs.Fences.{arrivals, is_full, collects}
use Rattle.wire_runs.specs.Names.{is_publish, publishes, takes_name, writes_name, calls_name}
use Rattle.wire_runs.specs.Order.{IsArrival, PublishesOnce, Edge, Follows, Meets, Feeds, Announces, may_come, Live, live, Before, edge, further}
use Rattle.wire_runs.specs.Races.{Delivery, ByFence, ByGet, IsOf, FenceDelivers, GetDelivers, Delivers, ComesSurely, IsUnordered, IsDeliveryRace, IsSettled}
use Rattle.wire_runs.specs.Embeddings.{Renaming, image, image_kind, IsKeyOf, IsSetOf, IsNameOf, IsEmbedding}
use Rattle.wire_runs.specs.Parts.{Piece, Kept, Left, kept_kinds, all_kinds, place_in, Fits, IsPartEach, IsPart, in_place, IsReadCall, LeavesReads, AddsReads, ReadsKeepFindings}
use Rattle.wire_runs.proofs.Basics.{event_within, stores_commit}
use Rattle.wire_runs.proofs.Due.{coming_event, live_source, place_path}
use Rattle.wire_runs.proofs.Histories.{before_live, after_live, joined, same_process, no_cycle}
use Rattle.wire_runs.proofs.Arrivals.{mate_on, node_among, written_name}
use Rattle.wire_runs.proofs.Images.{event_at, place_back, place_up, image_later, event_back, own_some, stored_end, stored_end_some, puts_end, stores_into, stores_back, arrives_end, arrival_into, arrival_back, writes_same, calls_same}
use Rattle.wire_runs.proofs.EmbeddedOrder.{chain_into, live_back}
use Rattle.wire_runs.proofs.EmbeddedFindings.{scope_same, get_delivers_back, fence_delivers_back}
use Rattle.wire_runs.proofs.Parts.{rising, kinds_agree, collects_track, back_end, parts_embed}

pub kind_in_place : (pieces : ℕ → List Piece) (k : Kind) → image_kind (in_place pieces) k ≡ k
kind_in_place pieces (Put key scope) = refl
kind_in_place pieces Commit = refl
kind_in_place pieces (Arrive members collect) = refl
kind_in_place pieces (Leave members) = refl
kind_in_place pieces (Get owner key) = refl
kind_in_place pieces (GetNow owner key) = refl
kind_in_place pieces (Publish name) = refl
kind_in_place pieces (Lookup name) = refl
kind_in_place pieces (LookupWait name) = refl
kind_in_place pieces (Unpublish name) = refl
kind_in_place pieces UnpublishAll = refl
kind_in_place pieces (Fixed reply) = refl

reads_fit : (to : Renaming) (small : Plan) (waits : Bool) (pieces : List Piece) → LeavesReads pieces → Fits to small waits pieces
reads_fit to small waits [] r = tt
reads_fit to small waits (Kept k ∷ pieces) r = reads_fit to small _ pieces r
reads_fit to small waits (Left (GetNow owner key) ∷ pieces) r = (tt, reads_fit to small waits pieces r.1)
reads_fit to small waits (Left (Lookup name) ∷ pieces) r = (tt, reads_fit to small waits pieces r.1)
reads_fit to small waits (Left _ ∷ pieces) r = absurd r.0

-- each event is kept or a read
abbrev Stands : Renaming → List Piece → ℕ → Kind → Type 0
Stands to pieces i k = (n : ℕ) × (place_in pieces n ≡ i) × (own_kind : Kind) × (slice_get (kept_kinds pieces) n ≡ Some own_kind) × (image_kind to own_kind ≡ k)

stands_or_read : (to : Renaming) (pieces : List Piece) → LeavesReads pieces → (i : ℕ) (k : Kind) → slice_get (all_kinds to pieces) i ≡ Some k → Stands to pieces i k ⊎ IsReadCall k
stands_or_read to [] r i k is = absurd (none-some k is)
stands_or_read to (Kept l ∷ pieces) r zero k is = inl (0, refl, l, refl, same_Some _ _ is)
stands_or_read to (Kept l ∷ pieces) r (suc i) k is = elim (stands_or_read to pieces r i k is) [ inl s ↦ inl (suc s.0, ap suc s.1, s.2, s.3, s.4) | inr s ↦ inr s ]
stands_or_read to (Left l ∷ pieces) r zero k is = inr (subst IsReadCall (same_Some _ _ is) r.0)
stands_or_read to (Left l ∷ pieces) r (suc i) k is = elim (stands_or_read to pieces r.1 i k is) [ inl s ↦ inl (s.0, ap suc s.1, s.2, s.3, s.4) | inr s ↦ inr s ]

-- a name is published where an event publishes it
pub publish_event : (plan : Plan) (p name n : ℕ) → publishes plan p name n ≡ true → (i : ℕ) × (i < n) × (kind_at plan p i ≡ Some (Publish name))
publish_event plan p name zero h = cc
publish_event plan p name (suc n) h = elim (or_cases _ _ h) [
  | inl now ↦ (n, omega arith, says (kind_at plan p n) now)
  | inr earlier ↦ (let r = publish_event plan p name n earlier in let l = r.1 in (r.0, omega (arith, l), r.2))
]
  where
    says : (o : Option Kind) → is_publish name o ≡ true → o ≡ Some (Publish name)
    says (Some (Publish other)) h = ap (λ v. Some (Publish v)) (eqb-true other name h)
    says _ h = cc

pub event_publishes : (plan : Plan) (p name i n : ℕ) → i < n → kind_at plan p i ≡ Some (Publish name) → publishes plan p name n ≡ true
event_publishes plan p name i zero lt is = absurd (omega (arith, lt))
event_publishes plan p name i (suc n) lt is = elim (cases_eq i n) [
  | inl e ↦ or_left _ _ (ap (is_publish name) (ap (kind_at plan p) (sym e) ∙ is) ∙ eq-eqb name name refl)
  | inr ne ↦ or_right _ _ (event_publishes plan p name i n (omega (arith, lt, ne)) is)
]

module _ (small large : Plan) (pieces : ℕ → List Piece) (adds : AddsReads small large pieces) where
  abbrev to : Renaming
  to = in_place pieces

  each : IsPartEach to small large pieces
  each = record {
    one_key = λ a b u v s. s;
    one_name = λ a b u v s. s;
    one_set = λ a b u v s. s;
    places = λ p n. refl;
    kept = adds.kept;
    all = adds.all;
    fits = λ p. reads_fit to small false (pieces p) (adds.reads p);
  }

  -- an event of the large plan is an image, or a read
  pub spot : (z : Event) (k : Kind) → kind large z ≡ Some k → ((y : Event) × (image to y ≡ z) × (kind small y ≡ Some k)) ⊎ IsReadCall k
  unfolding kind_at
  spot z k is = elim (stands_or_read to (pieces z.proc) (adds.reads z.proc) z.at k (ap (λ ks. slice_get ks z.at) (sym (adds.all z.proc)) ∙ is)) [
    | inl s ↦ inl (record { proc = z.proc; at = s.0 }, (λ t. record { proc = z.proc; at = s.1 t }), ap (λ ks. slice_get ks s.0) (adds.kept z.proc) ∙ s.3 ∙ ap Some (sym (kind_in_place pieces s.2) ∙ s.4))
    | inr r ↦ inr r
  ]

  pub kind_into : (y : Event) (k : Kind) → kind small y ≡ Some k → kind large (image to y) ≡ Some k
  kind_into y k is = kinds_agree to small large pieces each y k is ∙ ap Some (kind_in_place pieces k)

  -- two events with one image are one
  one_image : (x y : Event) → image to x ≡ image to y → x ≡ y
  one_image x y s =
      let procs : x.proc ≡ y.proc = ap (λ (v : Event). v.proc) s in
      let places : place_in (pieces x.proc) x.at ≡ place_in (pieces y.proc) y.at = ap (λ (v : Event). v.at) s in
      place_path x y.proc x.at procs refl ∙ ap (λ n. record { proc = y.proc; at = n }) (same_place y.proc x.at y.at (ap (λ p. place_in (pieces p) x.at) (sym procs) ∙ places))
    where
      up : (p n m : ℕ) → n < m → place_in (pieces p) n < place_in (pieces p) m
      up p n zero lt = absurd (omega (arith, lt))
      up p n (suc m) lt = elim (cases_eq n m) [
        | inl is ↦ subst (λ k. place_in (pieces p) k < place_in (pieces p) (suc m)) (sym is) (rising to small large pieces each p m)
        | inr ne ↦ (let rest = up p n m (omega (arith, lt, ne)) in let step = rising to small large pieces each p m in omega (arith, rest, step))
      ]

      same_place : (p n m : ℕ) → place_in (pieces p) n ≡ place_in (pieces p) m → n ≡ m
      same_place p n m s = elim (cases_eq n m) [
        | inl e ↦ e
        | inr ne ↦ absurd (elim (cases_lt n m) [
          | inl lt ↦ (let u = up p n m lt in omega (arith, u, s))
          | inr ge ↦ (let u = up p m n (omega (arith, ge, ne)) in omega (arith, u, s))
        ])
      ]

  -- names that are published once
  once_into : (x : Event) (name : ℕ) → PublishesOnce small x name → PublishesOnce large (image to x) name
  once_into x name o = record { is = kind_into x _ o.is; only = λ y is. only y (spot y _ is); stays = λ y. false_from_ne_true _ (λ t. stays y (kind large y) refl t) }
    where
      only : (y : Event) → ((v : Event) × (image to v ≡ y) × (kind small v ≡ Some (Publish name))) ⊎ IsReadCall (Publish name) → y ≡ image to x
      only y (inl s) = sym s.1 ∙ ap (image to) (o.only s.0 s.2)
      only y (inr r) = absurd r

      taken : (v : Event) (k : Kind) → kind small v ≡ Some k → takes_name small name v (Some k) ≡ true → ⊥
      taken v k is t = true≢false (sym (ap (takes_name small name v) is ∙ t) ∙ o.stays v)

      published : (p : ℕ) → publishes large p name (event_count large p) ≡ true → publishes small p name (event_count small p) ≡ true
      published p h =
          let r = publish_event large p name (event_count large p) h in
          elim (spot (record { proc = p; at = r.0 }) _ r.2) [
            | inl s ↦
                (let procs : s.0.proc ≡ p = ap (λ (v : Event). v.proc) s.1 in
                let is : kind_at small p s.0.at ≡ Some (Publish name) = ap (λ q. kind_at small q s.0.at) (sym procs) ∙ s.2 in
                event_publishes small p name s.0.at (event_count small p) (event_within small p s.0.at _ is) is)
            | inr r ↦ absurd r
          ]

      stays : (y : Event) (k : Option Kind) → kind large y ≡ k → takes_name large name y k ≡ true → ⊥
      stays y None is t = true≢false (sym t)
      stays y (Some (Unpublish n)) is t = elim (spot y _ is) [ inl s ↦ taken s.0 (Unpublish n) s.2 t | inr r ↦ r ]
      stays y (Some UnpublishAll) is t = elim (spot y _ is) [
        | inl s ↦ taken s.0 UnpublishAll s.2 (let procs : s.0.proc ≡ y.proc = ap (λ (v : Event). v.proc) s.1 in
            ap (λ q. publishes small q name (event_count small q)) procs ∙ published y.proc t)
        | inr r ↦ r
      ]
      stays y (Some _) is t = true≢false (sym t)

  collects_same : (p : ℕ) (members : List ℕ) (j : ℕ) → IsSetOf small members → collects large p members j (event_count large p) ≡ collects small p members j (event_count small p)
  collects_same p members j u = collects_track to small large pieces each p members u j (event_count large p) (omega arith) ∙ ap (collects small p members j) (back_end to small large pieces each p)

  part : IsPart to small large pieces
  part = record {
    each = each;
    one_process = λ p q s. s;
    member = λ members p u. refl;
    all_collect = λ members j u full all. ap (λ f. list_all f members) (λ t m. collects_same m members j u t) ∙ all;
    once = once_into;
    together = λ p q lp lq s. adds.nodes p ∙ s ∙ sym (adds.nodes q);
    keeps = adds.keeps;
  }

  pub e : IsEmbedding to small large
  e = parts_embed to small large pieces part

  kind_back : (y : Event) (k : Kind) → kind large (image to y) ≡ Some k → kind small y ≡ Some k
  kind_back y k is = let o = event_back to small large e y k is in o.1 ∙ ap Some (sym (kind_in_place pieces o.0) ∙ o.2)

  arrival_here : (z : Event) (members : List ℕ) (j : ℕ) → IsArrival large members j (image to z) → IsArrival small members j z
  arrival_here z members j a = let b = arrival_back to small large e z members j a in subst (λ ms. IsArrival small ms j z) b.1 b.2

  -- of an arrival in the large plan, the event of which it is the image
  pub arrival_spot : (z : Event) (members : List ℕ) (j : ℕ) → IsArrival large members j z → (y : Event) × (image to y ≡ z) × IsArrival small members j y
  arrival_spot z members j a = elim (spot z _ a.is) [ inl s ↦ (s.0, s.1, arrival_here s.0 members j (subst (λ v. IsArrival large members j v) (sym s.1) a)) | inr r ↦ absurd r ]

  full_same : (members : List ℕ) (j : ℕ) → IsSetOf small members → is_full large members j ≡ is_full small members j
  full_same members j u = ap (λ f. list_all f members) (λ t m. nat_le j (arrives_end to small large e members m u t))

  once_back : (x : Event) (name : ℕ) → PublishesOnce large (image to x) name → PublishesOnce small x name
  once_back x name o = record {
    is = kind_back x _ o.is;
    only = λ y is. one_image y x (o.only (image to y) (kind_into y _ is));
    stays = λ y. false_from_ne_true _ (λ t. taken y (kind small y) refl t);
  }
    where
      taken : (y : Event) (k : Option Kind) → kind small y ≡ k → takes_name small name y k ≡ true → ⊥
      taken y (Some (Unpublish n)) is t = true≢false (sym (ap (takes_name large name (image to y)) (kind_into y _ is) ∙ t) ∙ o.stays (image to y))
      taken y (Some UnpublishAll) is t = true≢false (sym (ap (takes_name large name (image to y)) (kind_into y _ is) ∙ e.publish y.proc name (x, _, kind_back x _ o.is, refl) ∙ t) ∙ o.stays (image to y))
      taken y None is t = true≢false (sym t)
      taken y (Some _) is t = true≢false (sym t)

  -- an edge goes along a process, or between images
  abbrev Along : Event → Event → Type 0
  Along z w = (z.proc ≡ w.proc) × (suc z.at ≡ w.at)

  abbrev Between : Event → Event → Type 0
  Between z w = (x : Event) × (y : Event) × (image to x ≡ z) × (image to y ≡ w)

  along_or_between : (z w : Event) → Edge large z w → Along z w ⊎ Between z w
  along_or_between z w (Follows same next) = inl (same, next)
  along_or_between z w (Meets members is a) = elim (spot w _ is) [ inl y ↦ elim (spot z _ a.is) [ inl x ↦ inr (x.0, y.0, x.1, y.1) | inr r ↦ absurd r ] | inr r ↦ absurd r ]
  along_or_between z w (Feeds key is other once stores) = elim (spot w _ is) [
    | inl y ↦ elim (spot z _ (stores_commit large z key stores)) [ inl x ↦ inr (x.0, y.0, x.1, y.1) | inr r ↦ absurd r ]
    | inr r ↦ absurd r
  ]
  along_or_between z w (Announces name is once) = elim (spot w _ is) [ inl y ↦ elim (spot z _ once.is) [ inl x ↦ inr (x.0, y.0, x.1, y.1) | inr r ↦ absurd r ] | inr r ↦ absurd r ]

  -- an edge between images is one in the small plan
  edge_back : (x y : Event) → Edge large (image to x) (image to y) → Edge small x y
  edge_back x y (Follows same next) =
      let there : suc (place_in (pieces y.proc) x.at) ≡ place_in (pieces y.proc) y.at = ap (λ p. suc (place_in (pieces p) x.at)) (sym same) ∙ next in
      let lt = place_back to small large e y.proc x.at y.at (omega (arith, there)) in
      Follows same (elim (cases_eq (suc x.at) y.at) [
        | inl s ↦ s
        | inr ne ↦ absurd (
            let a = e.rising y.proc x.at in
            let b = place_up to small large e y.proc (suc x.at) y.at (omega (arith, lt, ne)) in
            omega (arith, a, b, there))
      ])
  edge_back x y (Meets members is a) =
      let leaves = kind_back y _ is in
      let within = event_within small y.proc y.at _ leaves in
      Meets members leaves (subst (λ j. IsArrival small members j x) (e.arrives members y.proc y.at (y, _, leaves, refl) (omega (arith, within))) (arrival_here x members _ a))
  edge_back x y (Feeds key is other once stores) =
      let gets = kind_back y _ is in
      Feeds key gets other (sym (puts_end to small large e x.proc key (y, _, gets, refl)) ∙ once) (stores_back to small large e x key (y, _, gets, refl) stores)
  edge_back x y (Announces name is once) = Announces name (kind_back y _ is) (once_back x name once)

  -- of a chain from an image the last image that stands on it
  abbrev Reached : Event → Event → Type 0
  Reached x w = (u : Event) × (u.proc ≡ w.proc) × (place_in (pieces w.proc) u.at ≤ w.at) × ((x ≡ u) ⊎ Before small x u)

  -- from there to a later event of its process
  onward : (x u y : Event) → (x ≡ u) ⊎ Before small x u → u.proc ≡ y.proc → place_in (pieces y.proc) u.at ≤ place_in (pieces y.proc) y.at → Live small y → (x ≡ y) ⊎ Before small x y
  onward x u y r same le l = elim (cases_eq u.at y.at) [
    | inl s ↦ (let there : u ≡ y = (λ t. record { proc = same t; at = s t }) in elim r [ inl q ↦ inl (q ∙ there) | inr b ↦ inr (subst (λ v. Before small x v) there b) ])
    | inr ne ↦ (
        let lt : u.at < y.at = elim (cases_lt u.at y.at) [
          | inl less ↦ less
          | inr ge ↦ absurd (let up = place_up to small large e y.proc y.at u.at (omega (arith, ge, ne)) in omega (arith, up, le))
        ] in
        let b = same_process small u y l same lt in
        inr (elim r [ inl q ↦ subst (λ v. Before small v y) (sym q) b | inr c ↦ joined c b ]))
  ]

  reached_by : (x v w : Event) → Live large w → Edge large v w → Reached x v → Reached x w
  reached_by x v w l f r = elim (along_or_between v w f) [
    | inl a ↦ (
      r.0,
      r.1 ∙ a.0,
      (let at = r.2 in let next = a.1 in let here : place_in (pieces w.proc) r.0.at ≡ place_in (pieces v.proc) r.0.at = ap (λ p. place_in (pieces p) r.0.at) (sym a.0) in
          omega (arith, at, next, here)),
      r.3,
    )
    | inr b ↦ between b.0 b.1 b.2 b.3
  ]
    where
      between : (v' w' : Event) → image to v' ≡ v → image to w' ≡ w → Reached x w
      between v' w' iv iw =
          let f' : Edge small v' w' = edge_back v' w' (subst (λ q. Edge large q (image to w')) (sym iv) (subst (λ q. Edge large v q) (sym iw) f)) in
          let lw : Live small w' = live_back to small large e w' (subst (λ q. Live large q) (sym iw) l) in
          let lv : Live small v' = live_source lw f' in
          let procs : v'.proc ≡ v.proc = ap (λ (q : Event). q.proc) iv in
          let ats : place_in (pieces v'.proc) v'.at ≡ v.at = ap (λ (q : Event). q.at) iv in
          let le : place_in (pieces v'.proc) r.0.at ≤ place_in (pieces v'.proc) v'.at =
          (let at = r.2 in let here : place_in (pieces v'.proc) r.0.at ≡ place_in (pieces v.proc) r.0.at = ap (λ p. place_in (pieces p) r.0.at) procs in omega (arith, at, here, ats)) in
          let so = onward x r.0 v' r.3 (r.1 ∙ sym procs) le lv in
          let last : Before small v' w' = edge lv f' lw in (
            w',
            ap (λ (q : Event). q.proc) iw,
            (let here : place_in (pieces w.proc) w'.at ≡ w.at = ap (λ p. place_in (pieces p) w'.at) (sym (ap (λ (q : Event). q.proc) iw)) ∙ ap (λ (q : Event). q.at) iw in omega (arith, here)),
            inr (elim so [ inl q ↦ subst (λ a. Before small a w') (sym q) last | inr b ↦ joined b last ]),
          )

  reached : (x : Event) {z w : Event} → Before large z w → image to x ≡ z → Reached x w
  reached x (edge l f m) s = reached_by x _ _ m f (
    x,
    ap (λ (q : Event). q.proc) s,
    (let here : place_in (pieces x.proc) x.at ≡ _ = ap (λ (q : Event). q.at) s in let there = ap (λ p. place_in (pieces p) x.at) (ap (λ (q : Event). q.proc) s) in omega (arith, here, there)),
    inl refl,
  )
  reached x (further b f m) s = reached_by x _ _ m f (reached x b s)

  chain_back : (x y : Event) → Before large (image to x) (image to y) → Before small x y
  chain_back x y b =
      let r = reached x b refl in
      elim (onward x r.0 y r.3 r.1 r.2 (live_back to small large e y (after_live b))) [
        | inl s ↦ absurd (no_cycle (before_live b) (subst (λ v. Before large (image to x) (image to v)) (sym s) b))
        | inr c ↦ c
      ]

  -- what may come has an image that may come
  may_into : (y : Event) (k : Kind) → kind small y ≡ Some k → may_come small y (Some k) ≡ true → may_come large (image to y) (kind large (image to y)) ≡ true
  may_into y k is h = ap (may_come large (image to y)) (kind_into y k is) ∙ go k is h
    where
      go : (k : Kind) → kind small y ≡ Some k → may_come small y (Some k) ≡ true → may_come large (image to y) (Some k) ≡ true
      go (Get owner key) is h =
          let within = event_within small y.proc y.at _ is in
          elim (cases_eq y.proc owner) [
            | inl same ↦
                (let le : y.at ≤ event_count small owner = subst (λ p. y.at ≤ event_count small p) same (omega (arith, within)) in
                let own_is : is_some (own large owner key (place_in (pieces y.proc) y.at)) ≡ is_some (own small owner key y.at) =
                ap (λ p. is_some (own large owner key (place_in (pieces p) y.at))) same ∙ own_some to small large e owner key y.at (y, _, is, refl) le in
                cond-true _ _ _ (eq-eqb y.proc owner same) ∙ own_is ∙ subst (λ b. b ≡ true) (cond-true _ _ _ (eq-eqb y.proc owner same)) h)
            | inr other ↦
                (cond-false _ _ _ (ne_eqb y.proc owner other)
                ∙ ap (λ b. b || nat_le 2 (put_count large owner key (event_count large owner))) (stored_end_some to small large e owner key (y, _, is, refl))
                ∙ ap (λ n. is_some (stored small owner key (event_count small owner)) || nat_le 2 n) (puts_end to small large e owner key (y, _, is, refl))
                ∙ subst (λ b. b ≡ true) (cond-false _ _ _ (ne_eqb y.proc owner other)) h)
          ]
      go (Leave members) is h =
          let within = event_within small y.proc y.at _ is in
          ap (is_full large members) (e.arrives members y.proc y.at (y, _, is, refl) (omega (arith, within))) ∙ full_same members (arrivals small y.proc members y.at) (y, _, is, refl) ∙ h
      go _ is h = refl

  -- a read is live where the event before it is
  read_live : (z : Event) (k : Kind) → kind large z ≡ Some k → IsReadCall k → ((x : Event) → Along x z → Live large x) → Live large z
  read_live z k is r before = live (ap (may_come large z) is ∙ may k r) (λ x f. elim (along_or_between x z f) [
    | inl a ↦ before x a
    | inr b ↦ source x f
  ])
    where
      may : (l : Kind) → IsReadCall l → may_come large z (Some l) ≡ true
      may (GetNow owner key) r = refl
      may (Lookup name) r = refl
      may _ r = absurd r

      not : (l : Kind) → kind large z ≡ Some l → (IsReadCall l → ⊥) → ⊥
      not l el never = never (subst IsReadCall (same_Some _ _ (sym is ∙ el)) r)

      source : (x : Event) → Edge large x z → Live large x
      source x (Follows same next) = before x (same, next)
      source x (Meets members el a) = absurd (not _ el (λ v. v))
      source x (Feeds key el other once stores) = absurd (not _ el (λ v. v))
      source x (Announces name el once) = absurd (not _ el (λ v. v))

  abbrev LiveTo : ℕ → ℕ → Type 0
  LiveTo p m = (i : ℕ) → i ≤ place_in (pieces p) m → Live large (record { proc = p; at = i })

  at_event : (p n : ℕ) → n < event_count small p → ((m : ℕ) → suc m ≡ n → LiveTo p m) → (i : ℕ) → i < place_in (pieces p) n →
      ((x : Event) → Along x (record { proc = p; at = i }) → Live large x) → Live large (record { proc = p; at = i })
  at_event p n within before i lt earlier =
      let all = e.ends p in
      let up = place_up to small large e p n (event_count small p) within in
      let k = event_at large p i (omega (arith, lt, all, up)) in
      elim (spot (record { proc = p; at = i }) k.0 k.1) [
        | inr r ↦ read_live (record { proc = p; at = i }) k.0 k.1 r earlier
        | inl s ↦ (
            let at : place_in (pieces p) s.0.at ≡ i = ap (λ q. place_in (pieces q) s.0.at) (sym (ap (λ (v : Event). v.proc) s.1)) ∙ ap (λ (v : Event). v.at) s.1 in
            let less = place_back to small large e p s.0.at n (omega (arith, lt, at)) in
            below_last s.0.at n less at before)
      ]
    where
      below_last : (m n : ℕ) → m < n → place_in (pieces p) m ≡ i → ((l : ℕ) → suc l ≡ n → LiveTo p l) → Live large (record { proc = p; at = i })
      below_last m zero lt at before = absurd (omega (arith, lt))
      below_last m (suc n) lt at before = before n refl i (elim (cases_eq m n) [
        | inl s ↦ (let here = ap (place_in (pieces p)) s in omega (arith, at, here))
        | inr ne ↦ (let up = place_up to small large e p m n (omega (arith, lt, ne)) in omega (arith, up, at))
      ])

  reads_live : (p n : ℕ) → n < event_count small p → ((m : ℕ) → suc m ≡ n → LiveTo p m) → (i : ℕ) → i < place_in (pieces p) n → Live large (record { proc = p; at = i })
  reads_live p n within before zero lt = at_event p n within before zero lt (λ x a. absurd (let next = a.1 in omega (arith, next)))
  reads_live p n within before (suc i) lt =
      let rest = reads_live p n within before i (omega (arith, lt)) in
      at_event p n within before (suc i) lt (λ x a. let next = a.1 in subst (λ v. Live large v) (sym (place_path x p i a.0 (omega (arith, next)))) rest)

  -- every event up to the image of a live one is live
  up_to_live : {y : Event} → Live small y → LiveTo y.proc y.at
  up_to_live {y = y} (live may from) i le =
      let k = coming_event small y (kind small y) may in
      let within = event_within small y.proc y.at k.0 k.1 in
      let below : (m : ℕ) → m < place_in (pieces y.proc) y.at → Live large (record { proc = y.proc; at = m }) =
      reads_live y.proc y.at within (λ m s. up_to_live (from (record { proc = y.proc; at = m }) (Follows refl s))) in
      elim (cases_lt i (place_in (pieces y.proc) y.at)) [
        | inl lt ↦ below i lt
        | inr ge ↦ (
            let here : Live large (image to y) = live (may_into y k.0 k.1 (sym (ap (may_come small y) k.1) ∙ may)) (λ x f. elim (along_or_between x (image to y) f) [
              | inl a ↦ (let next = a.1 in subst (λ v. Live large v) (sym (place_path x y.proc x.at a.0 refl)) (below x.at (omega (arith, next))))
              | inr b ↦ subst (λ v. Live large v) b.2
                  (up_to_live (from b.0 (edge_back b.0 y (subst (λ v. Edge large v (image to y)) (sym b.2) f))) (place_in (pieces b.0.proc) b.0.at) (omega arith))
            ]) in
            let s : place_in (pieces y.proc) y.at ≡ i = omega (arith, ge, le) in
            subst (λ m. Live large (record { proc = y.proc; at = m })) s here)
      ]

  pub live_into : (y : Event) → Live small y → Live large (image to y)
  live_into y l = up_to_live l (place_in (pieces y.proc) y.at) (omega arith)

  unordered_into : (x y : Event) → IsUnordered small x y → IsUnordered large (image to x) (image to y)
  unordered_into x y u = record {
    live_x = live_into x u.live_x;
    live_y = live_into y u.live_y;
    not_before = λ b. u.not_before (chain_back x y b);
    not_after = λ b. u.not_after (chain_back y x b);
  }

  same_node_same : (p q : ℕ) → same_node large p q ≡ same_node small p q
  same_node_same p q = ap (λ n. n == node_of large q) (adds.nodes p) ∙ ap (λ n. node_of small p == n) (adds.nodes q)

  writes_into : (name : ℕ) → IsNameOf small name → (x : Event) → writes_name small name x (kind small x) ≡ true → writes_name large name (image to x) (kind large (image to x)) ≡ true
  writes_into name u x h = go (kind small x) refl h
    where
      go : (o : Option Kind) → kind small x ≡ o → writes_name small name x o ≡ true → writes_name large name (image to x) (kind large (image to x)) ≡ true
      go None is h = absurd (true≢false (sym h))
      go (Some k) is h = ap (writes_name large name (image to x)) (e.kinds_agree x k is) ∙ writes_same to small large e name u x k is ∙ h

  calls_into : (name : ℕ) → IsNameOf small name → (x : Event) → calls_name small name x (kind small x) ≡ true → calls_name large name (image to x) (kind large (image to x)) ≡ true
  calls_into name u x h = go (kind small x) refl h
    where
      go : (o : Option Kind) → kind small x ≡ o → calls_name small name x o ≡ true → calls_name large name (image to x) (kind large (image to x)) ≡ true
      go None is h = absurd (true≢false (sym h))
      go (Some k) is h = ap (calls_name large name (image to x)) (e.kinds_agree x k is) ∙ calls_same to small large e name u x k is ∙ h

  -- a get-now of the small plan, live
  module _ (owner key : ℕ) (get : Event) (is : kind small get ≡ Some (GetNow owner key)) (live_get : Live small get) where
    key_is : IsKeyOf small key
    key_is = (get, _, is, refl)

    node_here : node_of large get.proc ≡ node_of small get.proc
    node_here = adds.nodes get.proc

    -- a delivery that surely comes first in the large plan surely comes first in the small one
    sure_back : (d : Delivery) → Delivers large owner key (node_of large get.proc) d → ((z : Event) → IsOf large d z → Before large z (image to get)) →
        ComesSurely small owner key (node_of small get.proc) get
    sure_back (ByGet g) d before =
        let b : GetDelivers large owner key (node_of large get.proc) g = d.brings_it in
        elim (spot g _ b.away.is) [
          | inl x ↦ (
              let there : node_of small x.0.proc ≡ node_of small get.proc = sym (adds.nodes x.0.proc) ∙ ap (λ (v : Event). node_of large v.proc) x.1 ∙ b.there ∙ node_here in
              let d' = subst (λ v. Delivers large owner key (node_of large get.proc) (ByGet v)) (sym x.1) d in
              record {
                delivery = ByGet x.0;
                delivers = get_delivers_back to small large e owner key get is (live_into get live_get) x.0 there d';
                all_before = λ z s. subst (λ v. Before small v get) (sym s) (chain_back x.0 get (subst (λ v. Before large v (image to get)) (sym x.1) (before g refl)));
              })
          | inr r ↦ absurd r
        ]
    sure_back (ByFence members j) d before =
        let b : FenceDelivers large owner key (node_of large get.proc) members j = d.brings_it in
        let mine = arrival_spot (record { proc = owner; at = b.away.at }) members j b.away.arrival in
        let procs : mine.0.proc ≡ owner = ap (λ (v : Event). v.proc) mine.1 in
        let here : IsArrival small members j (record { proc = owner; at = mine.0.at }) = subst (λ v. IsArrival small members j v) (place_path mine.0 owner mine.0.at procs refl) mine.2 in
        let mate = mate_on large members (node_of large get.proc) b.reaches in
        record {
          delivery = ByFence members j;
          delivers = fence_delivers_back to small large e owner key get is (live_into get live_get) members j mine.0.at mate.0 here mate.1 (sym (adds.nodes mate.0) ∙ mate.2 ∙ node_here) d;
          all_before = λ z a. chain_back z get (before (image to z) (arrival_into to small large e z members j a));
        }

    -- a delivery of the small plan, in the large one
    abbrev delivery_into : Delivery → Delivery
    delivery_into (ByFence members j) = ByFence members j
    delivery_into (ByGet g) = ByGet (image to g)

    of_into : (d : Delivery) (z : Event) → IsOf small d z → IsOf large (delivery_into d) (image to z)
    of_into (ByFence members j) z a = arrival_into to small large e z members j a
    of_into (ByGet g) z s = ap (image to) s

    of_back : (d : Delivery) (z : Event) → IsOf large (delivery_into d) z → (y : Event) × (image to y ≡ z) × IsOf small d y
    of_back (ByFence members j) z a = arrival_spot z members j a
    of_back (ByGet g) z s = (g, sym s, refl)

    delivers_into : (d : Delivery) → Delivers small owner key (node_of small get.proc) d → Delivers large owner key (node_of large get.proc) (delivery_into d)
    delivers_into (ByGet g) d =
        let b : GetDelivers small owner key (node_of small get.proc) g = d.brings_it in
        record {
          brings_it = record {
            away = record {
              keeps = adds.keeps ∙ b.away.keeps;
              is = kind_into g _ b.away.is;
              put = place_in (pieces owner) b.away.put;
              committed = stored_end to small large e owner key key_is ∙ ap (option_map (to.place owner)) b.away.committed;
              admitted = ap (λ s. admits s false) (scope_same to small large e owner key _ b.away.put b.away.committed) ∙ b.away.admitted;
            };
            there = adds.nodes g.proc ∙ b.there ∙ sym node_here;
          };
          all_live = λ z s. subst (λ v. Live large v) (sym s) (live_into g (d.all_live g refl));
        }
    delivers_into (ByFence members j) d =
        let b : FenceDelivers small owner key (node_of small get.proc) members j = d.brings_it in
        let a = b.away.arrival in
        let mine : Event = record { proc = owner; at = b.away.at } in
        let fence : IsSetOf small members = (mine, _, a.is, refl) in
        let mate = mate_on small members (node_of small get.proc) b.reaches in
        let within = event_within small owner b.away.at _ a.is in
        let full = full_same members j fence ∙ b.away.full in
        record {
          brings_it = record {
            away = record {
              full = full;
              collecting = e.all_collect members j fence full b.away.collecting;
              member = b.away.member;
              at = place_in (pieces owner) b.away.at;
              put = place_in (pieces owner) b.away.put;
              arrival = arrival_into to small large e mine members j a;
              committed = e.stores owner key b.away.at key_is (omega (arith, within)) ∙ ap (option_map (to.place owner)) b.away.committed;
              admitted = ap (λ s. admits s false) (scope_same to small large e owner key _ b.away.put b.away.committed) ∙ b.away.admitted;
            };
            reaches = node_among large members mate.0 _ mate.1 (adds.nodes mate.0 ∙ mate.2 ∙ sym node_here);
          };
          all_live = λ z c. (let y = arrival_spot z members j c in subst (λ v. Live large v) y.1 (live_into y.0 (d.all_live y.0 y.2)));
        }

  delivery_race_into : (source get : Event) (owner key : ℕ) → IsDeliveryRace small source get owner key → IsDeliveryRace large (image to source) (image to get) owner key
  delivery_race_into source get owner key r =
      let live_get = live_into get r.get_live in
      record {
        is = kind_into get _ r.is;
        other = same_node_same owner get.proc ∙ r.other;
        once = puts_end to small large e owner key (get, _, r.is, refl) ∙ r.once;
        get_live = live_get;
        not_sure = λ s. r.not_sure (sure_back owner key get r.is r.get_live s.delivery s.delivers s.all_before);
        delivery = delivery_into owner key get r.is r.get_live r.delivery;
        delivers = delivers_into owner key get r.is r.get_live r.delivery r.delivers;
        before_none = λ z o b.
            let y = of_back owner key get r.is r.get_live r.delivery z o in
            r.before_none y.0 y.2 (chain_back get y.0 (subst (λ v. Before large (image to get) v) (sym y.1) b));
        of_it = of_into owner key get r.is r.get_live r.delivery source r.of_it;
        not_before = λ b. r.not_before (chain_back source get b);
        first = λ z o not.
            let y = of_back owner key get r.is r.get_live r.delivery z o in
            let procs : y.0.proc ≡ z.proc = ap (λ (v : Event). v.proc) y.1 in
            let le = r.first y.0 y.2 (λ b. not (subst (λ v. Before large v (image to get)) y.1 (chain_into to small large e b live_get))) in
            omega (arith, le, procs);
      }

  settled_less : IsSettled large → IsSettled small
  settled_less settled = record {
    no_rewrite = λ x y r.
        let within = event_within small x.proc x.at _ r.first_is in
        settled.no_rewrite (image to x) (image to y) (record {
          key = r.key;
          first_scope = r.first_scope;
          later_scope = r.later_scope;
          first_is = kind_into x _ r.first_is;
          later_is = kind_into y _ r.later_is;
          first = e.owns x.proc r.key x.at (x, _, r.first_is, refl) (omega (arith, within)) ∙ ap (option_map (to.place x.proc)) r.first;
          same = r.same;
          later = image_later to small large e x y r.same r.later;
        });
    no_node_race = λ c g key r. settled.no_node_race (image to c) (image to g) key (record {
      near = record {
        is = kind_into g _ r.near.is;
        another = r.near.another;
        once = puts_end to small large e c.proc key (g, _, r.near.is, refl) ∙ r.near.once;
        stores = stores_into to small large e c key (g, _, r.near.is, refl) r.near.stores;
        unordered = unordered_into c g r.near.unordered;
      };
      node = same_node_same c.proc g.proc ∙ r.node;
    });
    no_delivery_race = λ source get owner key r. settled.no_delivery_race (image to source) (image to get) owner key (delivery_race_into source get owner key r);
    no_name_race = λ x y name r.
        let u = written_name small name x r.x_writes in
        settled.no_name_race (image to x) (image to y) name (record {
          x_writes = writes_into name u x r.x_writes;
          y_calls = calls_into name u y r.y_calls;
          others = r.others;
          not_once = λ once is. r.not_once (once_back x name once) (kind_back y _ is);
          unordered = unordered_into x y r.unordered;
        });
  }

pub reads_keep_findings : ReadsKeepFindings
reads_keep_findings small large pieces adds settled = settled_less small large pieces adds settled
