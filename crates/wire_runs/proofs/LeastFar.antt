-- Given marks: whether a process surely has a key, and the lowest process with which a race is far.
use Rattle.std.proofs.Common.{◌≡◌, ℕ, zero, suc, ◌<◌, List, Bool, true, false, ◌&&◌, Option, Some, None, ◌⊎◌, inl, inr, refl, sym, ap, ◌∙◌, subst, arith}
use Rattle.std.proofs.lemmas.Option.{same_Some}
use Rattle.std.proofs.lemmas.Bool.{cases_eq, cases_Bool, and_parts, and_from, true≢false}
use Rattle.wire_runs.specs.Plan.{Plan, Kind, Arrive, Get, kind_at, kind, event_count, admits, Event}
use Rattle.wire_runs.specs.Puts.{stored, scope_of}
use Rattle.wire_runs.specs.Fences.{arrivals, is_member, is_full, is_collecting}
use Rattle.wire_runs.specs.Order.{IsArrival, Live, Before}
use Rattle.wire_runs.specs.Races.{Delivery, ByFence, ByGet, IsOf, FenceBringsAway, GetBringsAway, BringsAway}
use Rattle.wire_runs.specs.Laws.{HappensBefore}
use Rattle.wire_runs.specs.Placings.{TakesPart, Carries, HasSurely, IsFarRace}
use Rattle.wire_runs.specs.FindingsAnywhere.{IsLeastFar}
use Rattle.wire_runs.specs.PlacingLaws.{HaveLeastFar}
use Rattle.wire_runs.proofs.Basics.{event_within}
use Rattle.wire_runs.proofs.Due.{live_source}
use Rattle.wire_runs.proofs.Histories.{before_live}
use Rattle.wire_runs.proofs.FenceChains.{one_arrival_is_all, to_leave, leave_of, leave_live}

-- the lowest number below n that has the property, or none has it
lowest_of : (P : ℕ → Type 0) → ((i : ℕ) → P i ⊎ (P i → ⊥)) → (n : ℕ) → ((i : ℕ) × (i < n) × P i × ((k : ℕ) → k < i → P k → ⊥)) ⊎ ((i : ℕ) → i < n → P i → ⊥)
lowest_of P dec zero = inr (λ i lt h. omega (arith, lt))
lowest_of P dec (suc n) = go (lowest_of P dec n) (dec n)
  where
    go : ((i : ℕ) × (i < n) × P i × ((k : ℕ) → k < i → P k → ⊥)) ⊎ ((i : ℕ) → i < n → P i → ⊥) → P n ⊎ (P n → ⊥) →
        ((i : ℕ) × (i < suc n) × P i × ((k : ℕ) → k < i → P k → ⊥)) ⊎ ((i : ℕ) → i < suc n → P i → ⊥)
    go (inl w) here = let lt = w.1 in inl (w.0, omega (arith, lt), w.2, w.3)
    go (inr none) (inl h) = inl (n, omega arith, h, none)
    go (inr none) (inr not) = inr (λ i lt h. elim (cases_eq i n) [ inl e ↦ not (subst P e h) | inr ne ↦ none i (omega (arith, lt, ne)) h ])

-- what p has stored by then, for other nodes
abbrev IsStored : Plan → ℕ → ℕ → ℕ → Type 0
IsStored plan p key n = (put : ℕ) × (stored plan p key n ≡ Some put) × (admits (scope_of plan p put) false ≡ true)

stored_or_not : (plan : Plan) (p key n : ℕ) → IsStored plan p key n ⊎ (IsStored plan p key n → ⊥)
stored_or_not plan p key n = go (stored plan p key n) refl
  where
    go : (o : Option ℕ) → stored plan p key n ≡ o → IsStored plan p key n ⊎ (IsStored plan p key n → ⊥)
    go None e = inr (λ w. let is = w.1 in cc)
    go (Some put) e = elim (cases_Bool (admits (scope_of plan p put) false)) [
      | inl t ↦ inl (put, e, t)
      | inr f ↦ inr (λ w. true≢false (sym w.2 ∙ ap (λ v. admits (scope_of plan p v) false) (same_Some _ _ (sym w.1 ∙ e)) ∙ f))
    ]

module _ (plan : Plan) (marks : HappensBefore plan) (p key m : ℕ) (get : Event) where
  -- by the fence at which p's event i arrives
  record ByFenceAt (i : ℕ) : Type 0 where
    members : List ℕ
    j : ℕ
    brings : FenceBringsAway plan p key members j
    here : brings.at ≡ i
    part : is_member members m ≡ true
    all_live : (z : Event) → IsArrival plan members j z → Live plan z
    all_before : (z : Event) → IsArrival plan members j z → Before plan z get

  test : List ℕ → ℕ → ℕ → Bool
  test members j i =
      is_full plan members j && (is_collecting plan members j && (is_member members p && (is_member members m
      && (marks.alive (record { proc = p; at = suc i }) && marks.before (record { proc = p; at = i }) get))))

  passes : (members : List ℕ) (j i : ℕ) → is_full plan members j ≡ true → is_collecting plan members j ≡ true → is_member members m ≡ true → IsArrival plan members j (record { proc = p; at = i }) →
      ((z : Event) → IsArrival plan members j z → Live plan z) → ((z : Event) → IsArrival plan members j z → Before plan z get) → test members j i ≡ true
  unfolding test
  passes members j i full collecting part a lives befores =
      let leave : Event = record { proc = p; at = suc i } in
      let live_l : Live plan leave = leave_live plan members j leave (leave_of plan members j p i a) full lives in
      and_from _ _ full (and_from _ _ collecting (and_from _ _ a.member (and_from _ _ part (and_from _ _ ((marks.tells_live leave).1 live_l) ((marks.tells_before _ get).1 (befores _ a))))))

  built : (members : List ℕ) (collect : Bool) (i : ℕ) → kind_at plan p i ≡ Some (Arrive members collect) → IsStored plan p key i → test members (arrivals plan p members (suc i)) i ≡ true → ByFenceAt i
  unfolding test
  built members collect i is st t =
      let j = arrivals plan p members (suc i) in
      let a = and_parts _ _ t in
      let b = and_parts _ _ a.1 in
      let c = and_parts _ _ b.1 in
      let d = and_parts _ _ c.1 in
      let e = and_parts _ _ d.1 in
      let arrival : IsArrival plan members j (record { proc = p; at = i }) = record { collect = collect; is = is; member = c.0; nth = refl } in
      let leave : Event = record { proc = p; at = suc i } in
      let live_l : Live plan leave = (marks.tells_live leave).0 e.0 in
      let before : Before plan (record { proc = p; at = i }) get = (marks.tells_before _ get).0 e.1 in
      record {
        members = members;
        j = j;
        brings = record { full = a.0; collecting = b.0; member = c.0; at = i; put = st.0; arrival = arrival; committed = st.1; admitted = st.2 };
        here = refl;
        part = d.0;
        all_live = λ z z_arrives. live_source live_l (to_leave plan members j leave (leave_of plan members j p i arrival) z z_arrives);
        all_before = λ z z_arrives. one_arrival_is_all plan members j (record { proc = p; at = i }) z get arrival z_arrives before;
      }

  stored_at : (i : ℕ) → ByFenceAt i → IsStored plan p key i
  stored_at i w = (w.brings.put, ap (stored plan p key) (sym w.here) ∙ w.brings.committed, w.brings.admitted)

  arrives_at : (i : ℕ) (w : ByFenceAt i) → kind_at plan p i ≡ Some (Arrive w.members w.brings.arrival.collect)
  arrives_at i w = ap (kind_at plan p) (sym w.here) ∙ w.brings.arrival.is

  passes_at : (members : List ℕ) (collect : Bool) (i : ℕ) → kind_at plan p i ≡ Some (Arrive members collect) → ByFenceAt i → test members (arrivals plan p members (suc i)) i ≡ true
  passes_at members collect i is w =
      let there = arrives_at i w in
      let same : w.members ≡ members = cc in
      let nth : arrivals plan p w.members (suc i) ≡ w.j = ap (λ k. arrivals plan p w.members (suc k)) (sym w.here) ∙ w.brings.arrival.nth in
      let pass = passes w.members w.j w.brings.at w.brings.full w.brings.collecting w.part w.brings.arrival w.all_live w.all_before in
      ap (λ ms. test ms (arrivals plan p ms (suc i)) i) (sym same) ∙ ap (λ k. test w.members k i) nth ∙ ap (test w.members w.j) (sym w.here) ∙ pass

  fence_or_not : (i : ℕ) → ByFenceAt i ⊎ (ByFenceAt i → ⊥)
  fence_or_not i = go (kind_at plan p i) refl
    where
      go : (o : Option Kind) → kind_at plan p i ≡ o → ByFenceAt i ⊎ (ByFenceAt i → ⊥)
      go (Some (Arrive members collect)) e = elim (stored_or_not plan p key i) [
        | inr none ↦ inr (λ w. none (stored_at i w))
        | inl st ↦ elim (cases_Bool (test members (arrivals plan p members (suc i)) i)) [
          | inl t ↦ inl (built members collect i e st t)
          | inr f ↦ inr (λ w. true≢false (sym (passes_at members collect i e w) ∙ f))
        ]
      ]
      go _ e = inr (λ w. let there = arrives_at i w in cc)

  -- by m's own get, its event i
  record ByGetAt (i : ℕ) : Type 0 where
    brings : GetBringsAway plan p key (record { proc = m; at = i })
    before : Before plan (record { proc = m; at = i }) get

  get_or_not : (i : ℕ) → ByGetAt i ⊎ (ByGetAt i → ⊥)
  get_or_not i = elim (cases_Bool plan.keep) [
    | inr f ↦ inr (λ w. true≢false (sym w.brings.keeps ∙ f))
    | inl keeps ↦ elim (stored_or_not plan p key (event_count plan p)) [
      | inr none ↦ inr (λ w. none (w.brings.put, w.brings.committed, w.brings.admitted))
      | inl st ↦ elim (cases_Bool (marks.before (record { proc = m; at = i }) get)) [
        | inr f ↦ inr (λ w. true≢false (sym ((marks.tells_before _ get).1 w.before) ∙ f))
        | inl t ↦ go keeps st ((marks.tells_before _ get).0 t) (kind_at plan m i) refl
      ]
    ]
  ]
    where
      go : plan.keep ≡ true → IsStored plan p key (event_count plan p) → Before plan (record { proc = m; at = i }) get → (o : Option Kind) → kind_at plan m i ≡ o → ByGetAt i ⊎ (ByGetAt i → ⊥)
      go keeps st before (Some (Get owner k)) e = elim (cases_eq owner p) [
        | inr ne ↦ inr (λ w. let there = w.brings.is in ne cc)
        | inl a ↦ elim (cases_eq k key) [
          | inr ne ↦ inr (λ w. let there = w.brings.is in ne cc)
          | inl b ↦ inl (record {
            brings = record { keeps = keeps; is = e ∙ ap (λ v. Some (Get v k)) a ∙ ap (λ v. Some (Get p v)) b; put = st.0; committed = st.1; admitted = st.2 };
            before = before;
          })
        ]
      ]
      go keeps st before _ e = inr (λ w. let there = w.brings.is in cc)

  abbrev Sure : Type 0
  Sure = HasSurely plan p key m get

  by_fence_sure : (m ≡ p → ⊥) → (i : ℕ) → ByFenceAt i → Sure
  by_fence_sure ne i w = record {
    delivery = ByFence w.members w.j;
    carries = record { another = ne; takes_part = w.part; brings_away = w.brings; all_live = w.all_live };
    all_before = w.all_before;
  }

  by_get_sure : (m ≡ p → ⊥) → (i : ℕ) → ByGetAt i → Sure
  by_get_sure ne i w = record {
    delivery = ByGet (record { proc = m; at = i });
    carries = record { another = ne; takes_part = refl; brings_away = w.brings; all_live = λ z e. subst (Live plan) (sym e) (before_live w.before) };
    all_before = λ z e. subst (λ v. Before plan v get) (sym e) w.before;
  }

  neither : ((i : ℕ) → i < event_count plan p → ByFenceAt i → ⊥) → ((i : ℕ) → i < event_count plan m → ByGetAt i → ⊥) → Sure → ⊥
  neither no_fence no_get h = go h.delivery h.carries h.all_before
    where
      go : (d : Delivery) → Carries plan p key m d → ((z : Event) → IsOf plan d z → Before plan z get) → ⊥
      go (ByFence members j) c all =
          let b : FenceBringsAway plan p key members j = c.brings_away in
          no_fence b.at (event_within plan p b.at _ b.arrival.is) (record { members = members; j = j; brings = b; here = refl; part = c.takes_part; all_live = c.all_live; all_before = all })
      go (ByGet g) c all =
          let b : GetBringsAway plan p key g = c.brings_away in
          let same : g ≡ record { proc = m; at = g.at } = (let e = c.takes_part in λ t. record { proc = e t; at = g.at }) in
          let there : GetBringsAway plan p key (record { proc = m; at = g.at }) = subst (GetBringsAway plan p key) same b in
          no_get g.at (event_within plan m g.at _ there.is) (record { brings = there; before = subst (λ v. Before plan v get) same (all g refl) })

  pub sure_or_not : Sure ⊎ (Sure → ⊥)
  sure_or_not = elim (cases_eq m p) [
    | inl e ↦ inr (λ h. h.carries.another e)
    | inr ne ↦ elim (lowest_of ByFenceAt fence_or_not (event_count plan p)) [
      | inl w ↦ inl (by_fence_sure ne w.0 w.2)
      | inr no_fence ↦ elim (lowest_of ByGetAt get_or_not (event_count plan m)) [
        | inl w ↦ inl (by_get_sure ne w.0 w.2)
        | inr no_get ↦ inr (neither no_fence no_get)
      ]
    ]
  ]

part_or_not : (d : Delivery) (k : ℕ) → TakesPart d k ⊎ (TakesPart d k → ⊥)
part_or_not (ByFence members j) k = elim (cases_Bool (is_member members k)) [ inl t ↦ inl t | inr f ↦ inr (λ t. true≢false (sym t ∙ f)) ]
part_or_not (ByGet get) k = cases_eq get.proc k

-- the source tells the delivery
same_part : (plan : Plan) (p key k : ℕ) (x : Event) (d e : Delivery) → BringsAway plan p key d → BringsAway plan p key e → IsOf plan d x → IsOf plan e x → TakesPart d k → TakesPart e k
same_part plan p key k x (ByFence members j) (ByFence others i) b c of_d of_e part =
    let here : kind plan x ≡ Some (Arrive members of_d.collect) = of_d.is in
    let there : kind plan x ≡ Some (Arrive others of_e.collect) = of_e.is in
    let same : members ≡ others = cc in
    ap (λ ms. is_member ms k) (sym same) ∙ part
same_part plan p key k x (ByFence members j) (ByGet g) b c of_d of_e part =
    absurd (let here : kind plan x ≡ Some (Arrive members of_d.collect) = of_d.is in let there : kind plan x ≡ Some (Get p key) = ap (kind plan) of_e ∙ c.is in cc)
same_part plan p key k x (ByGet g) (ByFence members j) b c of_d of_e part =
    absurd (let here : kind plan x ≡ Some (Arrive members of_e.collect) = of_e.is in let there : kind plan x ≡ Some (Get p key) = ap (kind plan) of_d ∙ b.is in cc)
same_part plan p key k x (ByGet g) (ByGet h) b c of_d of_e part = ap (λ (v : Event). v.proc) (sym of_e ∙ of_d) ∙ part

-- a race that is far with one process: whether it is with another
far_or_not : (plan : Plan) → HappensBefore plan → (x y : Event) (p key m : ℕ) → IsFarRace plan x y p key m → (k : ℕ) → IsFarRace plan x y p key k ⊎ (IsFarRace plan x y p key k → ⊥)
far_or_not plan marks x y p key m r k = elim (part_or_not r.delivery k) [
  | inr not ↦ inr (λ s. not (same_part plan p key k x s.delivery r.delivery s.carries.brings_away r.carries.brings_away s.of_it r.of_it s.carries.takes_part))
  | inl part ↦ elim (cases_eq k p) [
    | inl e ↦ inr (λ s. s.carries.another e)
    | inr ne ↦ elim (sure_or_not plan marks p key k y) [
      | inl sure ↦ inr (λ s. s.neighbour_not_sure sure)
      | inr not ↦ inl (record {
        is = r.is;
        another = r.another;
        once = r.once;
        get_live = r.get_live;
        reader_not_sure = r.reader_not_sure;
        neighbour_not_sure = not;
        delivery = r.delivery;
        carries = record { another = ne; takes_part = part; brings_away = r.carries.brings_away; all_live = r.carries.all_live };
        before_none = r.before_none;
        of_it = r.of_it;
        not_before = r.not_before;
        first = r.first;
      })
    ]
  ]
]

least_far : (plan : Plan) → HappensBefore plan → (x y : Event) (p key m : ℕ) → IsFarRace plan x y p key m → (k : ℕ) × IsLeastFar plan x y p key k
least_far plan marks x y p key m r = elim (lowest_of (IsFarRace plan x y p key) (far_or_not plan marks x y p key m r) (suc m)) [
  | inl w ↦ (w.0, record { far = w.2; least = w.3 })
  | inr none ↦ absurd (none m (omega arith) r)
]

pub have_least : HaveLeastFar
have_least plan marks = record { sure = sure_or_not plan marks; least = least_far plan marks }
