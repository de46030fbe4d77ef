-- Far races, by the fences and the gets that bring a key away.
use Rattle.std.proofs.Common.{◌≡◌, ◌∙◌, ap, sym, refl, subst, ℕ, suc, ◌<◌, ◌≤◌, List, Some, ◌⊎◌, inl, inr, true, arith}
use Rattle.std.specs.Prelude.{slice_get}
use Rattle.std.proofs.lemmas.Bool.{cases_lt, cases_eq}
use Rattle.std.proofs.lemmas.Option.{same_Some}
use Rattle.wire_runs.specs.Plan.{Plan, Event, Arrive, Get, kind, node_of, event_count, GetNow}
use Rattle.wire_runs.specs.Fences.{is_member}
use Rattle.wire_runs.specs.Order.{IsArrival, Live, Before}
use Rattle.wire_runs.specs.Races.{Delivery, ByFence, ByGet, IsOf, FenceBringsAway, GetBringsAway}
use Rattle.wire_runs.specs.Placings.{Carries, HasSurely, IsFarRace}
use Rattle.wire_runs.specs.FindingsAnywhere.{PlacementFinding, IsLeastFar}
use Rattle.wire_plan.specs.Index.{IsDelivering, AreArrivals}
use Rattle.wire_plan.proofs.Delivering.{here}
use Rattle.wire_runs.proofs.FenceChains.{one_member_tells, member_arrives}
use Rattle.wire_fates.specs.Deliveries.{MayBeLate, IsLate}
use Rattle.wire_fates.proofs.Arrivals.{same_fence, arrival_of, late_once, late_there}
use Rattle.wire_fates.proofs.Surely.{delivering_within}
use Rattle.wire_races.specs.GetRaces.{MayRace}
use Rattle.wire_runs.proofs.Histories.{joined}
use Rattle.wire_fates.proofs.Sooner.{sooner_live, sooner_before}
use Rattle.wire_anywhere.specs.declared.placed.PlacedFinding.{PlacedFinding}
use Rattle.wire_anywhere.specs.Gets.{AreCarrying}
use Rattle.wire_anywhere.specs.Carriers.{LacksSurely, IsFirstLacking}
use Rattle.wire_anywhere.specs.Adding.{AddsPlacementFindings}
use Rattle.wire_anywhere.specs.Races.{IsUnsureAnywhere, IsRaceWith, IsFarBy, IsFarAt, AreFarBelow, AreFarByGets, AreFarGetsBelow}
use Rattle.wire_anywhere.proofs.Growing.{adds_none, adds_same, adds_both}
use Rattle.wire_anywhere.proofs.Surely.{delivering}

-- an arrival is no get
arrival_no_get : (plan : Plan) (x : Event) (members : List ℕ) (j p key : ℕ) → IsArrival plan members j x → kind plan x ≡ Some (Get p key) → ⊥
arrival_no_get plan x members j p key a is = let arrives : kind plan x ≡ Some (Arrive members a.collect) = a.is in cc

module _ (plan : Plan) (get : Event) (p key : ℕ) where
  -- of a far race of an arrival the other process is a member that lacks the key
  far_member : (at : ℕ) (x : Event) (m : ℕ) → (d : IsDelivering plan p key (node_of plan p) at) → IsLate plan get (here p at) x → IsFarRace plan x get p key m →
      (is_member d.members m ≡ true) × LacksSurely plan p key get m
  far_member at x m d l r = (go r.delivery r.carries r.of_it, (r.carries.another, r.neighbour_not_sure))
    where
      there : IsArrival plan d.members d.j x
      there = arrival_of plan (here p at) x l.may.fence.members d.members l.may.fence.j d.j l.may.fence.arrival d.arrival l.of_it

      go : (e : Delivery) → Carries plan p key m e → IsOf plan e x → is_member d.members m ≡ true
      go (ByFence members j) c a = subst (λ ms. is_member ms m ≡ true) (same_fence plan x members d.members j d.j a there).0 c.takes_part
      go (ByGet z) c e = absurd (arrival_no_get plan x d.members d.j p key there (ap (kind plan) e ∙ c.brings_away.is))

  -- the arrivals at a late fence, in process order
  module _ (n : IsUnsureAnywhere plan get p key) (at : ℕ) (x : Event) (d : IsDelivering plan p key (node_of plan p) at) (l : IsLate plan get (here p at) x) (places : List Event)
      (those : (members : List ℕ) (j : ℕ) → IsArrival plan members j (here p at) → AreArrivals plan members j places) where
    are : AreArrivals plan d.members d.j places
    are = those d.members d.j d.arrival

    in_late : (z : Event) → IsArrival plan d.members d.j z → IsArrival plan l.may.fence.members l.may.fence.j z
    in_late z a = arrival_of plan (here p at) z d.members l.may.fence.members d.j l.may.fence.j d.arrival l.may.fence.arrival a

    -- the place of a member's arrival
    member_at : (m : ℕ) → is_member d.members m ≡ true → (k : ℕ) × (z : Event) × (slice_get places k ≡ Some z) × (z.proc ≡ m)
    member_at m member =
        let w = member_arrives plan d.members d.j m _ d.brings.away.full d.arrival member in
        let at = are.all _ w.1 in
        (at.0, _, at.1, refl)

    pub far_here : (m : ℕ) → IsFirstLacking plan p key get places m → IsLeastFar plan x get p key m
    far_here m f = record {
      far = record {
        is = n.opened.is;
        another = n.opened.other;
        once = n.opened.once;
        get_live = n.opened.get_live;
        reader_not_sure = n.not_sure;
        neighbour_not_sure = f.lacks.1;
        delivery = ByFence d.members d.j;
        carries = record {
          another = f.lacks.0;
          takes_part = subst (λ q. is_member d.members q ≡ true) f.proc (are.only f.k f.z f.is).member;
          brings_away = d.brings.away;
          all_live = λ z a. l.may.all_live z (in_late z a);
        };
        before_none = λ z a. l.may.before_none z (in_late z a);
        of_it = arrival_of plan (here p at) x l.may.fence.members d.members l.may.fence.j d.j l.may.fence.arrival d.arrival l.of_it;
        not_before = l.not_before;
        first = λ z a late. l.first z (in_late z a) late;
      };
      least = λ k lt r.
          let w = far_member at x k d l r in
          let there = member_at k w.0 in
          let its = there.3 in
          let mine = f.proc in
          elim (cases_lt there.0 f.k) [
            | inl low ↦ f.others there.0 there.1 low there.2 (subst (LacksSurely plan p key get) (sym its) w.1)
            | inr ge ↦ elim (cases_eq f.k there.0) [
              | inl e ↦ (let one : f.z ≡ there.1 = same_Some _ _ (sym f.is ∙ ap (slice_get places) e ∙ there.2) in let q = ap (λ (v : Event). v.proc) one in omega (arith, q, its, mine, lt))
              | inr ne ↦ elim (are.rising f.k there.0 f.z there.1 (omega (arith, ge, ne)) f.is there.2) [
                | inl up ↦ omega (arith, up, its, mine, lt)
                | inr up ↦ (let q = up.0 in omega (arith, q, its, mine, lt))
              ]
            ]
          ];
    }

    -- where none lacks the key, the fence is no far race
    pub none_far : ((k : ℕ) (z : Event) → slice_get places k ≡ Some z → ¬ (LacksSurely plan p key get z.proc)) → (m : ℕ) → IsFarRace plan x get p key m → ⊥
    none_far none m r =
        let w = far_member at x m d l r in
        let there = member_at m w.0 in
        none there.0 there.1 there.2 (subst (LacksSurely plan p key get) (sym there.3) w.1)

  -- a get that brings the key away, may come later, and whose process lacks the key
  pub far_get : IsUnsureAnywhere plan get p key → (z : Event) → GetBringsAway plan p key z → MayRace plan z get → LacksSurely plan p key get z.proc → IsLeastFar plan z get p key z.proc
  far_get n z b may lacks = record {
    far = record {
      is = n.opened.is;
      another = n.opened.other;
      once = n.opened.once;
      get_live = n.opened.get_live;
      reader_not_sure = n.not_sure;
      neighbour_not_sure = lacks.1;
      delivery = ByGet z;
      carries = carries;
      before_none = λ v e before. may.1 (subst (Before plan get) e before);
      of_it = refl;
      not_before = λ before. lacks.1 (record { delivery = ByGet z; carries = carries; all_before = λ v e. subst (λ u. Before plan u get) (sym e) before });
      first = λ v e late. (let same = ap (λ (u : Event). u.proc) e in omega (arith, same));
    };
    least = λ k lt r. go k lt r.delivery r.carries r.of_it;
  }
    where
      carries : Carries plan p key z.proc (ByGet z)
      carries = record { another = lacks.0; takes_part = refl; brings_away = b; all_live = λ v e. subst (Live plan) (sym e) may.0 }

      go : (k : ℕ) → k < z.proc → (e : Delivery) → Carries plan p key k e → IsOf plan e z → ⊥
      go k lt (ByFence members j) c a = arrival_no_get plan z members j p key a b.is
      go k lt (ByGet v) c e = let its = c.takes_part in let same = ap (λ (u : Event). u.proc) e in omega (arith, lt, its, same)

  -- and no other get is a far race
  pub get_is_far : (z : Event) (m : ℕ) → GetBringsAway plan p key z → IsFarRace plan z get p key m → MayRace plan z get × LacksSurely plan p key get z.proc
  get_is_far z m b r = go r.delivery r.carries r.before_none r.of_it
    where
      go : (e : Delivery) → Carries plan p key m e → ((v : Event) → IsOf plan e v → ¬ (Before plan get v)) → IsOf plan e z → MayRace plan z get × LacksSurely plan p key get z.proc
      go (ByFence members j) c none a = absurd (arrival_no_get plan z members j p key a b.is)
      go (ByGet v) c none e =
          let same : m ≡ z.proc = sym c.takes_part ∙ ap (λ (u : Event). u.proc) (sym e) in
          ((c.all_live z e, none z e), subst (LacksSurely plan p key get) same (c.another, r.neighbour_not_sure))

  -- each far race is one of a fence or of a get
  pub far_either : (f : PlacementFinding) → IsFarBy plan get p key f → ((at : ℕ) × IsFarAt plan get p key at f) ⊎ AreFarByGets plan get p key f
  far_either f t = go t.source t.m t.far t.is t.far.far.delivery t.far.far.carries t.far.far.before_none t.far.far.of_it t.far.far.not_before t.far.far.first
    where
      go : (x : Event) (m : ℕ) → IsLeastFar plan x get p key m → IsRaceWith x get p key m f → (e : Delivery) → Carries plan p key m e → ((z : Event) → IsOf plan e z → ¬ (Before plan get z)) →
          IsOf plan e x → ¬ (Before plan x get) → ((z : Event) → IsOf plan e z → ¬ (Before plan z get) → x.proc ≤ z.proc) →
          ((at : ℕ) × IsFarAt plan get p key at f) ⊎ AreFarByGets plan get p key f
      go x m far is (ByFence members j) c none a not first =
          let b : FenceBringsAway plan p key members j = c.brings_away in
          inl (
            b.at,
            record {
              source = x;
              m = m;
              delivers = delivering plan p key members j b;
              late = record {
                may = record { fence = record { members = members; j = j; arrival = b.arrival }; all_live = c.all_live; before_none = none };
                of_it = a;
                not_before = not;
                first = first;
              };
              far = far;
              is = is;
            },
          )
      go x m far is (ByGet z) c none e not first =
          let moved : IsLeastFar plan z get p key m = subst (λ v. IsLeastFar plan v get p key m) e far in
          let raced : IsRaceWith z get p key m f = subst (λ v. IsRaceWith v get p key m f) e is in
          inr (z, record { brings = c.brings_away; far = subst (IsLeastFar plan z get p key) (sym c.takes_part) moved; is = subst (λ k. IsRaceWith z get p key k f) (sym c.takes_part) raced })

  -- the end of a fence tells whether it may come late
  pub may_told : kind plan get ≡ Some (GetNow p key) → (at : ℕ) (d : IsDelivering plan p key (node_of plan p) at) → Live plan (here p (suc at)) → ¬ (Before plan get (here p (suc at))) →
      MayBeLate plan get (here p at)
  may_told asks at d end not =
      let tells = one_member_tells plan d.members d.j p at p key get d.arrival asks in
      let full = d.brings.away.full in
      record {
        fence = record { members = d.members; j = d.j; arrival = d.arrival };
        all_live = (tells.live full).1 end;
        before_none = (tells.late full end).1 not;
      }

  pub told_may : kind plan get ≡ Some (GetNow p key) → (at : ℕ) (d : IsDelivering plan p key (node_of plan p) at) → MayBeLate plan get (here p at) →
      Live plan (here p (suc at)) × ¬ (Before plan get (here p (suc at)))
  told_may asks at d m =
      let tells = one_member_tells plan d.members d.j p at p key get d.arrival asks in
      let full = d.brings.away.full in
      let same : (z : Event) → IsArrival plan d.members d.j z → IsArrival plan m.fence.members m.fence.j z =
      λ z a. arrival_of plan (here p at) z d.members m.fence.members d.j m.fence.j d.arrival m.fence.arrival a in
      let end = (tells.live full).0 (λ z a. m.all_live z (same z a)) in
      (end, (tells.late full end).0 (λ z a. m.before_none z (same z a)))

  -- where one arrival isn't before the get, the first of all is late
  module _ (asks : kind plan get ≡ Some (GetNow p key)) (q at : ℕ) (m : MayBeLate plan get (here q at)) where
    pub first_is_late : (places : List Event) → ((members : List ℕ) (j : ℕ) → IsArrival plan members j (here q at) → AreArrivals plan members j places) → ¬ (Before plan (here q at) get) →
        (x : Event) → slice_get places 0 ≡ Some x → IsLate plan get (here q at) x
    first_is_late places those not x is =
        let tells = one_member_tells plan m.fence.members m.fence.j q at p key get m.fence.arrival asks in
        let are = those m.fence.members m.fence.j m.fence.arrival in
        late_there plan get (here q at) m.fence places those x m (record {
          k = 0;
          is = is;
          not_before = tells.none not x (are.only 0 x is);
          others = λ k z lt there. absurd (omega (arith, lt));
        })

    -- and where it is, none is late
    pub sure_not_late : Before plan (here q at) get → (x : Event) → IsLate plan get (here q at) x → ⊥
    sure_not_late before x l =
        let tells = one_member_tells plan l.may.fence.members l.may.fence.j q at p key get l.may.fence.arrival asks in
        l.not_before (tells.sure.1 before x l.of_it)

    pub nobody_late : (places : List Event) → ((members : List ℕ) (j : ℕ) → IsArrival plan members j (here q at) → AreArrivals plan members j places) →
        ((k : ℕ) (z : Event) → slice_get places k ≡ Some z → ⊥) → (x : Event) → IsLate plan get (here q at) x → ⊥
    nobody_late places those none x l = let there = (those l.may.fence.members l.may.fence.j l.may.fence.arrival).all x l.of_it in none there.0 x there.1

  least_one : (x : Event) (m k : ℕ) → IsLeastFar plan x get p key m → IsLeastFar plan x get p key k → m ≡ k
  least_one x m k a b = elim (cases_lt m k) [
    | inl lt ↦ absurd (b.least m lt a.far)
    | inr ge ↦ elim (cases_lt k m) [ inl gt ↦ absurd (a.least k gt b.far) | inr le ↦ omega (arith, ge, le) ]
  ]

  -- one fence is looked at
  pub one_late : (old new : List PlacedFinding) (at : ℕ) (x : Event) (m : ℕ) → IsDelivering plan p key (node_of plan p) at → IsLate plan get (here p at) x → IsLeastFar plan x get p key m →
      AddsPlacementFindings plan old new (IsRaceWith x get p key m) → AddsPlacementFindings plan old new (IsFarAt plan get p key at)
  one_late old new at x m d l far =
      adds_same plan old new (IsRaceWith x get p key m) (IsFarAt plan get p key at)
      (λ f i. record { source = x; m = m; delivers = d; late = l; far = far; is = i })
      (λ f t.
      let same : t.source ≡ x = late_once plan get (here p at) x t.source l t.late in
      let its : IsLeastFar plan x get p key t.m = subst (λ v. IsLeastFar plan v get p key t.m) same t.far in
      subst (λ k. IsRaceWith x get p key k f) (least_one x t.m m its far) (subst (λ v. IsRaceWith v get p key t.m f) same t.is))

  pub not_late : (found : List PlacedFinding) (at : ℕ) → ((x : Event) → IsLate plan get (here p at) x → ⊥) → AddsPlacementFindings plan found found (IsFarAt plan get p key at)
  not_late found at never = adds_none plan found (IsFarAt plan get p key at) (λ f t. never t.source t.late)

  pub not_far : (found : List PlacedFinding) (at : ℕ) (x : Event) → IsLate plan get (here p at) x → ((m : ℕ) → IsFarRace plan x get p key m → ⊥) → AddsPlacementFindings plan found found (IsFarAt plan get p key at)
  not_far found at x l never = adds_none plan found (IsFarAt plan get p key at)
      (λ f t. never t.m (subst (λ v. IsFarRace plan v get p key t.m) (late_once plan get (here p at) x t.source l t.late) t.far.far))

  -- no fence so far
  pub no_fence : (found : List PlacedFinding) → AddsPlacementFindings plan found found (AreFarBelow plan get p key 0)
  no_fence found = adds_none plan found (AreFarBelow plan get p key 0) (λ f t. let lt = t.1 in omega (arith, lt))

  pub late_more : (old mid new : List PlacedFinding) (from at next : ℕ) → from ≤ at → next ≡ suc at → ((k : ℕ) → from ≤ k → k < at → ¬ (IsDelivering plan p key (node_of plan p) k)) →
      AddsPlacementFindings plan old mid (AreFarBelow plan get p key from) → AddsPlacementFindings plan mid new (IsFarAt plan get p key at) → AddsPlacementFindings plan old new (AreFarBelow plan get p key next)
  late_more old mid new from at next le one others first second =
      adds_both plan old mid new (AreFarBelow plan get p key from) (IsFarAt plan get p key at) (AreFarBelow plan get p key next)
      (λ f t. let lt = t.1 in (t.0, omega (arith, lt, le, one), t.2))
      (λ f t. (at, omega (arith, one), t))
      (λ f t. elim (cases_lt t.0 from) [
        | inl lt ↦ inl (t.0, lt, t.2)
        | inr ge ↦ elim (cases_eq t.0 at) [
          | inl same ↦ inr (subst (λ k. IsFarAt plan get p key k f) same t.2)
          | inr other ↦ (let lt = t.1 in absurd (others t.0 ge (omega (arith, lt, one, other)) t.2.delivers))
        ]
      ])
      first second

  -- where a fence can't be late, no later one is
  pub no_later : (from at : ℕ) → ((k : ℕ) → from ≤ k → k < at → ¬ (IsDelivering plan p key (node_of plan p) k)) → IsDelivering plan p key (node_of plan p) at → (MayBeLate plan get (here p at) → ⊥) →
      (k : ℕ) → from ≤ k → (f : PlacementFinding) → IsFarAt plan get p key k f → ⊥
  no_later from at others d never k ge f t = elim (cases_lt k at) [
    | inl lt ↦ others k ge lt t.delivers
    | inr le ↦ elim (cases_eq k at) [
      | inl same ↦ never (subst (λ n. MayBeLate plan get (here p n)) same t.late.may)
      | inr other ↦ (
          let lt : at < k = omega (arith, le, other) in
          let later = t.late.may.all_live (here p k) t.late.may.fence.arrival in
          never (record {
            fence = record { members = d.members; j = d.j; arrival = d.arrival };
            all_live = λ z h. sooner_live plan p at k d.members d.j d.arrival lt later z h;
            before_none = λ z h b. t.late.may.before_none (here p k) t.late.may.fence.arrival (joined b (sooner_before plan p at k d.members d.j d.arrival lt later z h));
          }))
    ]
  ]

  pub late_done : (old new : List PlacedFinding) (from : ℕ) → ((k : ℕ) → from ≤ k → (f : PlacementFinding) → IsFarAt plan get p key k f → ⊥) → AddsPlacementFindings plan old new (AreFarBelow plan get p key from) →
      AddsPlacementFindings plan old new (AreFarBelow plan get p key (event_count plan p))
  late_done old new from never =
      adds_same plan old new (AreFarBelow plan get p key from) (AreFarBelow plan get p key (event_count plan p))
      (λ f t. (t.0, delivering_within plan p key (node_of plan p) t.0 t.2.delivers, t.2))
      (λ f t. elim (cases_lt t.0 from) [ inl lt ↦ (t.0, lt, t.2) | inr ge ↦ absurd (never t.0 ge f t.2) ])

  pub late_whole : (old new : List PlacedFinding) (from : ℕ) → ((k : ℕ) → from ≤ k → ¬ (IsDelivering plan p key (node_of plan p) k)) → AddsPlacementFindings plan old new (AreFarBelow plan get p key from) →
      AddsPlacementFindings plan old new (AreFarBelow plan get p key (event_count plan p))
  late_whole old new from later = late_done old new from (λ k ge f t. later k ge t.delivers)

  module _ (places : List Event) (are : AreCarrying plan p key places) where
    pub no_get : (found : List PlacedFinding) → AddsPlacementFindings plan found found (AreFarGetsBelow plan get p key places 0)
    no_get found = adds_none plan found (AreFarGetsBelow plan get p key places 0) (λ f t. let lt = t.2 in omega (arith, lt))

    -- one get more
    pub get_more : (old mid new : List PlacedFinding) (n next : ℕ) (z : Event) → next ≡ suc n → slice_get places n ≡ Some z → IsLeastFar plan z get p key z.proc →
        AddsPlacementFindings plan old mid (AreFarGetsBelow plan get p key places n) → AddsPlacementFindings plan mid new (IsRaceWith z get p key z.proc) → AddsPlacementFindings plan old new (AreFarGetsBelow plan get p key places next)
    get_more old mid new n next z one is far first second =
        adds_both plan old mid new (AreFarGetsBelow plan get p key places n) (IsRaceWith z get p key z.proc) (AreFarGetsBelow plan get p key places next)
        (λ f t. let lt = t.2 in (t.0, t.1, omega (arith, lt, one), t.3, t.4))
        (λ f t. (n, z, omega (arith, one), is, record { brings = are.only n z is; far = far; is = t }))
        (λ f t. elim (cases_eq t.0 n) [
          | inl e ↦ inr (subst (λ v. IsRaceWith v get p key v.proc f) (same_Some _ _ (sym t.3 ∙ ap (slice_get places) e ∙ is)) t.4.is)
          | inr ne ↦ inl (let lt = t.2 in (t.0, t.1, omega (arith, lt, one, ne), t.3, t.4))
        ])
        first second

    pub get_skip : (old new : List PlacedFinding) (n next : ℕ) (z : Event) → next ≡ suc n → slice_get places n ≡ Some z → (MayRace plan z get × LacksSurely plan p key get z.proc → ⊥) →
        AddsPlacementFindings plan old new (AreFarGetsBelow plan get p key places n) → AddsPlacementFindings plan old new (AreFarGetsBelow plan get p key places next)
    get_skip old new n next z one is never =
        adds_same plan old new (AreFarGetsBelow plan get p key places n) (AreFarGetsBelow plan get p key places next)
        (λ f t. let lt = t.2 in (t.0, t.1, omega (arith, lt, one), t.3, t.4))
        (λ f t. elim (cases_eq t.0 n) [
          | inl e ↦ absurd (
              let same : t.1 ≡ z = same_Some _ _ (sym t.3 ∙ ap (slice_get places) e ∙ is) in
              never (subst (λ v. MayRace plan v get × LacksSurely plan p key get v.proc) same (get_is_far t.1 t.1.proc t.4.brings t.4.far.far)))
          | inr ne ↦ (let lt = t.2 in (t.0, t.1, omega (arith, lt, one, ne), t.3, t.4))
        ])

    pub gets_done : (old new : List PlacedFinding) (n : ℕ) → ((k : ℕ) (z : Event) → slice_get places k ≡ Some z → k < n) → AddsPlacementFindings plan old new (AreFarGetsBelow plan get p key places n) →
        AddsPlacementFindings plan old new (AreFarByGets plan get p key)
    gets_done old new n all =
        adds_same plan old new (AreFarGetsBelow plan get p key places n) (AreFarByGets plan get p key)
        (λ f t. (t.1, t.4))
        (λ f t. let at = are.all t.0 t.1.brings in (at.0, t.0, all at.0 t.0 at.1, at.1, t.1))

  -- the fences and the gets are all far races
  pub adds_far : (old mid new : List PlacedFinding) → AddsPlacementFindings plan old mid (AreFarBelow plan get p key (event_count plan p)) → AddsPlacementFindings plan mid new (AreFarByGets plan get p key) →
      AddsPlacementFindings plan old new (IsFarBy plan get p key)
  adds_far old mid new =
      adds_both plan old mid new (AreFarBelow plan get p key (event_count plan p)) (AreFarByGets plan get p key) (IsFarBy plan get p key)
      (λ f t. record { source = t.2.source; m = t.2.m; far = t.2.far; is = t.2.is })
      (λ f t. record { source = t.0; m = t.0.proc; far = t.1.far; is = t.1.is })
      (λ f t. elim (far_either f t) [ inl w ↦ inl (w.0, delivering_within plan p key _ w.0 w.1.delivers, w.1) | inr w ↦ inr w ])

  -- where the reader surely has the key there is none
  pub sure_none : (found : List PlacedFinding) → HasSurely plan p key get.proc get → AddsPlacementFindings plan found found (IsFarBy plan get p key)
  sure_none found sure = adds_none plan found (IsFarBy plan get p key) (λ f t. t.far.far.reader_not_sure sure)
