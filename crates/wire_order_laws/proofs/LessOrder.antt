-- A plan with less order stands in the plan, and what it lacks is in no finding.
use Rattle.std.proofs.Common.{◌≡◌, ℕ, zero, suc, List, [], ◌∷◌, Bool, true, false, ◌==◌, Option, Some, None, ◌⊎◌, inl, inr, refl, sym, ap, ◌∙◌, subst, arith, eqb-true}
use Rattle.std.specs.Prelude.{slice_get}
use Rattle.std.specs.List.{list_all}
use Rattle.std.proofs.lemmas.Bool.{true≢false, false_from_ne_true}
use Rattle.std.proofs.lemmas.Option.{none-some, same_Some}
use Rattle.wire_runs.specs.Plan.{Arrive, Leave, Get, Publish, Lookup, LookupWait, Unpublish, UnpublishAll, Fixed}
use Rattle.wire_runs.specs.Plan.{Plan, Event, Kind, kind_at, kind, event_count, node_of, same_node}
use Rattle.wire_runs.specs.Fences.{collects}
use Rattle.wire_runs.specs.Names.{publishes, takes_name, writes_name, calls_name}
use Rattle.wire_runs.specs.Order.{IsArrival, PublishesOnce}
use Rattle.wire_runs.specs.Races.{Delivery, ByFence, ByGet, FenceDelivers, GetDelivers, Delivers, IsRewrite, IsNodeRace, IsDeliveryRace, IsNameRace, IsSettled}
use Rattle.wire_runs.specs.Embeddings.{Renaming, image, image_kind, IsNameOf, IsSetOf, IsEmbedding, KeepsFindings, IsKeptDelivery}
use Rattle.wire_runs.specs.Parts.{Piece, Kept, Left, kept_kinds, all_kinds, place_in, Fits, IsPartEach, IsPart, in_place}
use Rattle.wire_runs.proofs.Basics.{event_within, stores_commit}
use Rattle.wire_runs.proofs.Arrivals.{mate_on}
use Rattle.wire_runs.proofs.EmbeddedFindings.{embeddings_keep_findings}
use Rattle.wire_runs.proofs.Parts.{kinds_agree, collects_track, back_end, parts_embed}
use Rattle.wire_runs.proofs.Collecting.{collects_by_all}
use Rattle.wire_runs.proofs.MoreReads.{kind_in_place, publish_event, event_publishes}
use Rattle.wire_order_laws.specs.LessOrder.{IsPublishedOnce, MayLack, LacksWaits, HasLessOrder, LessOrderFinds}

lacks_fit : (all : ℕ → List Piece) (small large : Plan) (waits : Bool) (pieces : List Piece) → LacksWaits small large pieces → Fits (in_place all) small waits pieces
lacks_fit all small large waits [] l = tt
lacks_fit all small large waits (Kept k ∷ pieces) l = lacks_fit all small large _ pieces l
lacks_fit all small large waits (Left (LookupWait name) ∷ pieces) l = (tt, lacks_fit all small large waits pieces l.1)
lacks_fit all small large waits (Left (Publish name) ∷ pieces) l = ((λ own u s. l.0.1 (subst (λ n. IsNameOf small n) s u)), lacks_fit all small large waits pieces l.1)
lacks_fit all small large waits (Left (Arrive members collect) ∷ pieces) l = ((λ own u s. l.0.1 (subst (λ ms. IsSetOf small ms) s u)), lacks_fit all small large waits pieces l.1)
lacks_fit all small large waits (Left (Leave members) ∷ pieces) l = (tt, lacks_fit all small large waits pieces l.1)
lacks_fit all small large waits (Left (Get owner key) ∷ pieces) l = (tt, lacks_fit all small large waits pieces l.1)
lacks_fit all small large waits (Left (Fixed reply) ∷ pieces) l = (tt, lacks_fit all small large waits pieces l.1)
lacks_fit all small large waits (Left _ ∷ pieces) l = absurd l.0

-- each event is kept, or one that may be lacking
abbrev Stands : Renaming → List Piece → ℕ → Kind → Type 0
Stands to pieces i k = (n : ℕ) × (place_in pieces n ≡ i) × (own_kind : Kind) × (slice_get (kept_kinds pieces) n ≡ Some own_kind) × (image_kind to own_kind ≡ k)

stands_or_lacks : (to : Renaming) (small large : Plan) (pieces : List Piece) → LacksWaits small large pieces → (i : ℕ) (k : Kind) → slice_get (all_kinds to pieces) i ≡ Some k → Stands to pieces i k ⊎ MayLack small large k
stands_or_lacks to small large [] l i k is = absurd (none-some k is)
stands_or_lacks to small large (Kept m ∷ pieces) l zero k is = inl (0, refl, m, refl, same_Some _ _ is)
stands_or_lacks to small large (Kept m ∷ pieces) l (suc i) k is = elim (stands_or_lacks to small large pieces l i k is) [ inl s ↦ inl (suc s.0, ap suc s.1, s.2, s.3, s.4) | inr r ↦ inr r ]
stands_or_lacks to small large (Left m ∷ pieces) l zero k is = inr (subst (λ v. MayLack small large v) (same_Some _ _ is) l.0)
stands_or_lacks to small large (Left m ∷ pieces) l (suc i) k is = elim (stands_or_lacks to small large pieces l.1 i k is) [ inl s ↦ inl (s.0, ap suc s.1, s.2, s.3, s.4) | inr r ↦ inr r ]

module _ (small large : Plan) (pieces : ℕ → List Piece) (less : HasLessOrder small large pieces) where
  abbrev to : Renaming
  to = in_place pieces

  pub each : IsPartEach to small large pieces
  each = record {
    one_key = λ a b u v s. s;
    one_name = λ a b u v s. s;
    one_set = λ a b u v s. s;
    places = λ p n. refl;
    kept = less.kept;
    all = less.all;
    fits = λ p. lacks_fit pieces small large false (pieces p) (less.lacks p);
  }

  -- an event of the large plan is an image, or may be lacking
  abbrev Image : Event → Kind → Type 0
  Image z k = (y : Event) × (image to y ≡ z) × (kind small y ≡ Some k)

  spot : (z : Event) (k : Kind) → kind large z ≡ Some k → Image z k ⊎ MayLack small large k
  unfolding kind_at
  spot z k is = elim (stands_or_lacks to small large (pieces z.proc) (less.lacks z.proc) z.at k (ap (λ ks. slice_get ks z.at) (sym (less.all z.proc)) ∙ is)) [
    | inl s ↦ inl (record { proc = z.proc; at = s.0 }, (λ t. record { proc = z.proc; at = s.1 t }), ap (λ ks. slice_get ks s.0) (less.kept z.proc) ∙ s.3 ∙ ap Some (sym (kind_in_place pieces s.2) ∙ s.4))
    | inr r ↦ inr r
  ]

  pub kind_into : (y : Event) (k : Kind) → kind small y ≡ Some k → kind large (image to y) ≡ Some k
  kind_into y k is = kinds_agree to small large pieces each y k is ∙ ap Some (kind_in_place pieces k)

  -- names that are published once
  once_into : (x : Event) (name : ℕ) → PublishesOnce small x name → PublishesOnce large (image to x) name
  once_into x name o = record { is = kind_into x _ o.is; only = λ y is. only y (spot y _ is); stays = λ y. false_from_ne_true _ (λ t. stays y (kind large y) refl t) }
    where
      named : IsNameOf small name
      named = (x, _, o.is, refl)

      only : (y : Event) → Image y (Publish name) ⊎ MayLack small large (Publish name) → y ≡ image to x
      only y (inl s) = sym s.1 ∙ ap (image to) (o.only s.0 s.2)
      only y (inr r) = absurd (r.1 named)

      taken : (v : Event) (k : Kind) → kind small v ≡ Some k → takes_name small name v (Some k) ≡ true → ⊥
      taken v k is t = true≢false (sym (ap (takes_name small name v) is ∙ t) ∙ o.stays v)

      published : (p : ℕ) → publishes large p name (event_count large p) ≡ true → publishes small p name (event_count small p) ≡ true
      published p h =
          let r = publish_event large p name (event_count large p) h in
          elim (spot (record { proc = p; at = r.0 }) _ r.2) [
            | inl s ↦
                (let procs : s.0.proc ≡ p = ap (λ (v : Event). v.proc) s.1 in
                let is : kind_at small p s.0.at ≡ Some (Publish name) = ap (λ q. kind_at small q s.0.at) (sym procs) ∙ s.2 in
                event_publishes small p name s.0.at (event_count small p) (event_within small p s.0.at _ is) is)
            | inr r ↦ absurd (r.1 named)
          ]

      stays : (y : Event) (k : Option Kind) → kind large y ≡ k → takes_name large name y k ≡ true → ⊥
      stays y None is t = true≢false (sym t)
      stays y (Some (Unpublish n)) is t = elim (spot y _ is) [ inl s ↦ taken s.0 (Unpublish n) s.2 t | inr r ↦ r ]
      stays y (Some UnpublishAll) is t = elim (spot y _ is) [
        | inl s ↦ taken s.0 UnpublishAll s.2 (let procs : s.0.proc ≡ y.proc = ap (λ (v : Event). v.proc) s.1 in
            ap (λ q. publishes small q name (event_count small q)) procs ∙ published y.proc t)
        | inr r ↦ r
      ]
      stays y (Some _) is t = true≢false (sym t)

  collects_same : (p : ℕ) (members : List ℕ) (j : ℕ) → IsSetOf small members → collects large p members j (event_count large p) ≡ collects small p members j (event_count small p)
  collects_same p members j u = collects_track to small large pieces each p members u j (event_count large p) (omega arith) ∙ ap (collects small p members j) (back_end to small large pieces each p)

  part : IsPart to small large pieces
  part = record {
    each = each;
    one_process = λ p q s. s;
    member = λ members p u. refl;
    all_collect = λ members j u full all. ap (λ f. list_all f members) (λ t m. collects_same m members j u t) ∙ all;
    once = once_into;
    together = λ p q lp lq s. less.nodes p ∙ s ∙ sym (less.nodes q);
    keeps = less.keeps;
  }

  pub e : IsEmbedding to small large
  e = parts_embed to small large pieces part

  found : KeepsFindings to small large
  found = embeddings_keep_findings to small large e

  same_node_same : (p q : ℕ) → same_node large p q ≡ same_node small p q
  same_node_same p q = ap (λ n. n == node_of large q) (less.nodes p) ∙ ap (λ n. node_of small p == n) (less.nodes q)

  -- nothing races on a name that is published once but what the small plan has
  published_by : (x : Event) (name : ℕ) → PublishesOnce large x name → (z : Event) → writes_name large name z (kind large z) ≡ true → z ≡ x
  published_by x name once z h = go (kind large z) refl h
    where
      go : (o : Option Kind) → kind large z ≡ o → writes_name large name z o ≡ true → z ≡ x
      go None is h = absurd (true≢false (sym h))
      go (Some (Publish n)) is h = once.only z (is ∙ ap (λ v. Some (Publish v)) (eqb-true n name h))
      go (Some k) is h = absurd (true≢false (sym (ap (takes_name large name z) is ∙ h) ∙ once.stays z))

  -- of a delivery the small plan has what brings it
  kept : (g : Event) (owner key : ℕ) (d : Delivery) → Delivers large owner key (node_of large g.proc) d → IsKeptDelivery to small large owner (node_of small g.proc) d
  kept g owner key (ByFence members j) delivers =
      let d : FenceDelivers large owner key (node_of large g.proc) members j = delivers.brings_it in
      let mine : Event = record { proc = owner; at = d.away.at } in
      let a : IsArrival large members j mine = d.away.arrival in
      let m = mate_on large members (node_of large g.proc) d.reaches in
      elim (spot mine _ a.is) [
        | inl s ↦ (let procs : s.0.proc ≡ owner = ap (λ (v : Event). v.proc) s.1 in record {
          own_at = s.0.at;
          arrival = subst (λ v. IsArrival large members j v) (sym s.1 ∙ ap (λ p. image to (record { proc = p; at = s.0.at })) procs) a;
          mate = m.0;
          mate_is_member = m.1;
          mate_there = sym (less.nodes m.0) ∙ m.2 ∙ less.nodes g.proc;
        })
        | inr l ↦ absurd (true≢false (sym ((collects_by_all large members j).0 d.away.collecting mine a) ∙ l.0))
      ]
  kept g owner key (ByGet get) delivers =
      let d : GetDelivers large owner key (node_of large g.proc) get = delivers.brings_it in
      elim (spot get _ d.away.is) [
        | inl s ↦ (s.0, s.1, (let procs : s.0.proc ≡ get.proc = ap (λ (v : Event). v.proc) s.1 in sym (less.nodes s.0.proc) ∙ ap (node_of large) procs ∙ d.there ∙ less.nodes g.proc))
        | inr l ↦ absurd (true≢false (sym d.away.keeps ∙ l))
      ]

  -- the small plan has the event, and a call on the name
  abbrev IsCalled : Event → ℕ → Type 0
  IsCalled z name = (y : Event) × (image to y ≡ z) × IsNameOf small name

  -- what writes a name is the small plan's, or the one publish of a name of which that plan has no call
  writer : (x : Event) (name : ℕ) → writes_name large name x (kind large x) ≡ true → IsCalled x name ⊎ (IsPublishedOnce large name × (IsNameOf small name → ⊥))
  writer x name h = go (kind large x) refl h
    where
      go : (o : Option Kind) → kind large x ≡ o → writes_name large name x o ≡ true → IsCalled x name ⊎ (IsPublishedOnce large name × (IsNameOf small name → ⊥))
      go None is h = absurd (true≢false (sym h))
      go (Some (Publish n)) is h = elim (spot x _ is) [
        | inl s ↦ inl (s.0, s.1, (s.0, _, s.2, ap Some (eqb-true n name h)))
        | inr l ↦ inr (subst (λ v. IsPublishedOnce large v × (IsNameOf small v → ⊥)) (eqb-true n name h) l)
      ]
      go (Some (Unpublish n)) is h = elim (spot x _ is) [
        | inl s ↦ inl (s.0, s.1, (s.0, _, s.2, ap Some (eqb-true n name h)))
        | inr l ↦ absurd l
      ]
      go (Some UnpublishAll) is h = elim (spot x _ is) [
        | inl s ↦ (
            let z = publish_event large x.proc name (event_count large x.proc) h in
            elim (spot (record { proc = x.proc; at = z.0 }) _ z.2) [
              | inl v ↦ inl (s.0, s.1, (v.0, _, v.2, refl))
              | inr l ↦ absurd (true≢false (sym (ap (takes_name large name x) is ∙ h) ∙ l.0.1.stays x))
            ])
        | inr l ↦ absurd l
      ]
      go (Some _) is h = absurd (true≢false (sym h))

  -- what calls a name reads it, in the small plan or as a lookup-wait of a name that is published once; or writes it
  caller : (y : Event) (name : ℕ) → calls_name large name y (kind large y) ≡ true →
      (IsCalled y name ⊎ ((kind large y ≡ Some (LookupWait name)) × IsPublishedOnce large name)) ⊎ (writes_name large name y (kind large y) ≡ true)
  caller y name h = go (kind large y) refl h
    where
      go : (o : Option Kind) → kind large y ≡ o → calls_name large name y o ≡ true →
          (IsCalled y name ⊎ ((kind large y ≡ Some (LookupWait name)) × IsPublishedOnce large name)) ⊎ (writes_name large name y (kind large y) ≡ true)
      go None is h = absurd (true≢false (sym h))
      go (Some (Lookup n)) is h = elim (spot y _ is) [
        | inl s ↦ inl (inl (s.0, s.1, (s.0, _, s.2, ap Some (eqb-true n name h))))
        | inr l ↦ absurd l
      ]
      go (Some (LookupWait n)) is h = elim (spot y _ is) [
        | inl s ↦ inl (inl (s.0, s.1, (s.0, _, s.2, ap Some (eqb-true n name h))))
        | inr l ↦ inl (inr (is ∙ ap (λ v. Some (LookupWait v)) (eqb-true n name h), subst (λ v. IsPublishedOnce large v) (eqb-true n name h) l))
      ]
      go (Some k) is h = inr (ap (writes_name large name y) is ∙ h)

  -- no race is on a name that is published once, but with a lookup
  not_waits : (x y : Event) (name : ℕ) → IsNameRace large x y name → IsPublishedOnce large name → kind large y ≡ Some (LookupWait name) → ⊥
  not_waits x y name r once is = r.not_once (subst (λ v. PublishesOnce large v name) (sym (published_by once.0 name once.1 x r.x_writes)) once.1) is

  not_writes : (x y : Event) (name : ℕ) → IsNameRace large x y name → IsPublishedOnce large name → writes_name large name y (kind large y) ≡ true → ⊥
  not_writes x y name r once h = r.others (ap (λ (v : Event). v.proc) (published_by once.0 name once.1 x r.x_writes ∙ sym (published_by once.0 name once.1 y h)))

  settled_more : IsSettled small → IsSettled large
  settled_more settled = record {
    no_rewrite = λ x y r. elim (spot x _ r.first_is) [
      | inl a ↦ elim (spot y _ r.later_is) [
        | inl b ↦ settled.no_rewrite a.0 b.0 (found.rewrites a.0 b.0
            (subst (λ v. IsRewrite large v (image to b.0)) (sym a.1) (subst (λ v. IsRewrite large x v) (sym b.1) r)))
        | inr l ↦ l
      ]
      | inr l ↦ l
    ];
    no_node_race = λ c g key r. elim (spot c _ (stores_commit large c key r.near.stores)) [
      | inl a ↦ elim (spot g _ r.near.is) [
        | inl b ↦ node_race a.0 b.0 key (subst (λ v. IsNodeRace large v (image to b.0) key) (sym a.1) (subst (λ v. IsNodeRace large c v key) (sym b.1) r))
        | inr l ↦ l
      ]
      | inr l ↦ l
    ];
    no_delivery_race = λ source g owner key r. elim (spot g _ r.is) [
      | inl b ↦ delivery_race source b.0 owner key (subst (λ v. IsDeliveryRace large source v owner key) (sym b.1) r)
      | inr l ↦ l
    ];
    no_name_race = name_race;
  }
    where
      node_race : (c g : Event) (key : ℕ) → IsNodeRace large (image to c) (image to g) key → ⊥
      node_race c g key r =
          let s = found.node_races c g key r (sym (same_node_same c.proc g.proc) ∙ r.node) in
          settled.no_node_race c g s.0 s.2

      delivery_race : (source g : Event) (owner key : ℕ) → IsDeliveryRace large source (image to g) owner key → ⊥
      delivery_race source g owner key r =
          found.delivery_races source g owner key r (sym (same_node_same owner g.proc) ∙ r.other) (kept g owner key r.delivery r.delivers) settled

      both_kept : (x y : Event) (name : ℕ) → IsNameRace large x y name → IsCalled x name → IsCalled y name → ⊥
      both_kept x y name r a b = settled.no_name_race a.0 b.0 name (found.name_races a.0 b.0 name a.2
          (subst (λ v. IsNameRace large v (image to b.0) name) (sym a.1) (subst (λ v. IsNameRace large x v name) (sym b.1) r)))

      name_race : (x y : Event) (name : ℕ) → IsNameRace large x y name → ⊥
      name_race x y name r = elim (writer x name r.x_writes) [
        | inl a ↦ elim (caller y name r.y_calls) [
          | inl reads ↦ elim reads [ inl b ↦ both_kept x y name r a b | inr w ↦ not_waits x y name r w.1 w.0 ]
          | inr h ↦ elim (writer y name h) [ inl b ↦ both_kept x y name r a b | inr w ↦ not_writes x y name r w.0 h ]
        ]
        | inr l ↦ elim (caller y name r.y_calls) [
          | inl reads ↦ elim reads [ inl b ↦ l.1 b.2 | inr w ↦ not_waits x y name r w.1 w.0 ]
          | inr h ↦ not_writes x y name r l.0 h
        ]
      ]

pub less_order_finds : LessOrderFinds
less_order_finds small large pieces less settled = settled_more small large pieces less settled
