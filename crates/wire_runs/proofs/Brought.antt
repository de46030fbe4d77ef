-- What fences bring, and what a get sees in two cuts that both have all that is before it.
use Rattle.std.proofs.Common.{◌≡◌, ℕ, zero, suc, ◌<◌, ◌≤◌, List, [], ◌∷◌, Bool, true, false, ◌&&◌, cond, nat_eq, Option, Some, None, is_some, inl, inr, refl, sym, ap, ◌∙◌, subst, arith, eq-eqb}
use Rattle.std.proofs.Common.{ne_eqb, leb-true, le-leb}
use Rattle.std.specs.List.{list_all}
use Rattle.std.proofs.lemmas.Bool.{cond-true, cond-false, cases_eq, cases_lt, cases_Bool, and_parts, and_from, or_cases, or_left, or_right, true≢false}
use Rattle.wire_runs.specs.Plan.{Plan, Kind, Arrive, Get, GetNow, kind, kind_at, event_count, same_node, Event}
use Rattle.std.specs.Prelude.{bytes_eq as same_members}
use Rattle.std.proofs.lemmas.Slice.Eq.{bytes_eq-Decides}
use Rattle.wire_runs.specs.Puts.{own, stored}
use Rattle.wire_runs.specs.Fences.{arrivals_with, arrivals, is_member, is_complete, is_full}
use Rattle.wire_runs.specs.Sight.{held, served, has_brought, stored_at_with, delivered_with, delivered, get_sees}
use Rattle.wire_runs.specs.Order.{IsArrival, Edge, Feeds, may_come, Live, Before, edge}
use Rattle.wire_runs.specs.Races.{IsSettled}
use Rattle.wire_runs.proofs.Basics.{list_all_at_member, arrivals_rise, stored_own, stored_stays}
use Rattle.wire_runs.proofs.Due.{ClosedCut, chain_in, live_may, live_source}
use Rattle.wire_runs.proofs.Puts.{stored_fixed, put_once, put_at_most_once, first_stores}
use Rattle.wire_runs.proofs.Lists.{list_all_weaker}

-- the arrival whose fence brought this put
pub record Bringer (plan : Plan) (cut : ℕ → ℕ) (t node key n u : ℕ) : Type 0 where
  pub at : ℕ
  pub members : List ℕ
  pub collect : Bool
  pub is : kind_at plan t at ≡ Some (Arrive members collect)
  pub brings_it : has_brought plan cut t node members (arrivals plan t members (suc at)) ≡ true
  pub stored_is : stored plan t key at ≡ Some u
  pub below : at < n

pub bringer : (plan : Plan) (cut : ℕ → ℕ) (t node key n u : ℕ) → delivered plan cut t node key n ≡ Some u → Bringer plan cut t node key n u
bringer plan cut t node key zero u h = cc
bringer plan cut t node key (suc n) u h = go (kind_at plan t n) refl h (bringer plan cut t node key n u)
  where
    on : Bringer plan cut t node key n u → Bringer plan cut t node key (suc n) u
    on b = let l = b.below in record { at = b.at; members = b.members; collect = b.collect; is = b.is; brings_it = b.brings_it; stored_is = b.stored_is; below = omega (arith, l) }

    go : (o : Option Kind) → kind_at plan t n ≡ o → delivered_with plan cut t node key n (delivered plan cut t node key n) o ≡ Some u →
        (delivered plan cut t node key n ≡ Some u → Bringer plan cut t node key n u) → Bringer plan cut t node key (suc n) u
    go (Some (Arrive members collect)) e d ih = elim (cases_Bool (has_brought plan cut t node members (arrivals plan t members (suc n)))) [
      | inl b ↦ record {
        at = n;
        members = members;
        collect = collect;
        is = e;
        brings_it = b;
        stored_is = sym (ap (λ v. stored_at_with v (stored plan t key n) (delivered plan cut t node key n)) b)
            ∙ d;
        below = omega arith;
      }
      | inr b ↦ on (ih (sym (ap (λ v. stored_at_with v (stored plan t key n) (delivered plan cut t node key n)) b) ∙ d))
    ]
    go _ e d ih = on (ih d)

module _ (plan : Plan) (settled : IsSettled plan) where
  -- what some fence brought stays
  pub delivered_from : (cut : ℕ → ℕ) (t node key n u : ℕ) → Bringer plan cut t node key n u → delivered plan cut t node key n ≡ Some u
  delivered_from cut t node key zero u b = let l = b.below in absurd (omega (arith, l))
  delivered_from cut t node key (suc n) u b = elim (cases_eq b.at n) [
    | inl e ↦
        let is : kind_at plan t n ≡ Some (Arrive b.members b.collect) = subst (λ m. kind_at plan t m ≡ Some (Arrive b.members b.collect)) e b.is in
        let br : has_brought plan cut t node b.members (arrivals plan t b.members (suc n)) ≡ true = subst (λ m. has_brought plan cut t node b.members (arrivals plan t b.members (suc m)) ≡ true) e
        b.brings_it in
        let st : stored plan t key n ≡ Some u = subst (λ m. stored plan t key m ≡ Some u) e b.stored_is in
        ap (delivered_with plan cut t node key n (delivered plan cut t node key n)) is ∙ ap (λ v. stored_at_with v (stored plan t key n) (delivered plan cut t node key n)) br ∙ st
    | inr ne ↦
        let l = b.below in
        let rest : Bringer plan cut t node key n u = record {
          at = b.at;
          members = b.members;
          collect = b.collect;
          is = b.is;
          brings_it = b.brings_it;
          stored_is = b.stored_is;
          below = omega (arith, l, ne);
        } in
        let same = stored_fixed plan settled t key b.at n (omega (arith, l, ne)) (ap is_some b.stored_is) ∙ b.stored_is in
        go (kind_at plan t n) (delivered_from cut t node key n u rest) same
  ]
    where
      go : (o : Option Kind) → delivered plan cut t node key n ≡ Some u → stored plan t key n ≡ Some u → delivered_with plan cut t node key n (delivered plan cut t node key n) o ≡ Some u
      go (Some (Arrive members collect)) d st = elim (cases_Bool (has_brought plan cut t node members (arrivals plan t members (suc n)))) [
        | inl b ↦ ap (λ v. stored_at_with v (stored plan t key n) (delivered plan cut t node key n)) b ∙ st
        | inr b ↦ ap (λ v. stored_at_with v (stored plan t key n) (delivered plan cut t node key n)) b ∙ d
      ]
      go _ d st = d

pub complete_more : (plan : Plan) (cut cut' : ℕ → ℕ) (members : List ℕ) (j : ℕ) → ((m : ℕ) → cut m ≤ cut' m) → is_complete plan cut members j ≡ true → is_complete plan cut' members j ≡ true
complete_more plan cut cut' members j up =
    list_all_weaker _ _ members (λ m t. le-leb _ _ (let a = leb-true _ _ t in let b = arrivals_rise plan m members (cut m) (cut' m) (up m) in omega (arith, a, b)))

pub brings_more : (plan : Plan) (cut cut' : ℕ → ℕ) (t node : ℕ) (members : List ℕ) (j : ℕ) → ((m : ℕ) → cut m ≤ cut' m) → has_brought plan cut t node members j ≡ true →
    has_brought plan cut' t node members j ≡ true
brings_more plan cut cut' t node members j up h =
    let b = and_parts _ _ h in
    and_from _ _ (complete_more plan cut cut' members j up b.0) b.1

-- of two tests of a list that differ, an element at which they do
pub differs : (f g : ℕ → Bool) (xs : List ℕ) → list_all f xs ≡ false → list_all g xs ≡ true → (m : ℕ) × (is_member xs m ≡ true) × (f m ≡ false) × (g m ≡ true)
differs f g [] h t = absurd (true≢false h)
differs f g (x ∷ xs) h t = elim (cases_Bool (f x)) [
  | inl fx ↦ let r = differs f g xs (subst (λ b. (b && list_all f xs) ≡ false) fx h) (and_parts _ _ t).1 in (r.0, or_right _ _ r.1, r.2, r.3)
  | inr fx ↦ (x, or_left _ _ (eq-eqb x x refl), fx, (and_parts _ _ t).0)
]

pub list_all_of_members : (f : ℕ → Bool) (xs : List ℕ) → ((m : ℕ) → is_member xs m ≡ true → f m ≡ true) → list_all f xs ≡ true
list_all_of_members f [] all = refl
list_all_of_members f (x ∷ xs) all = and_from _ _ (all x (or_left _ _ (eq-eqb x x refl))) (list_all_of_members f xs (λ m i. all m (or_right _ _ i)))

-- a count of arrivals that rises, rises at an arrival, by one
rose_with : (members : List ℕ) (n : ℕ) (o : Option Kind) → n < arrivals_with members n o → (collect : Bool) × (o ≡ Some (Arrive members collect)) × (arrivals_with members n o ≡ suc n)
rose_with members n (Some (Arrive others collect)) = elim (cases_Bool (same_members others members)) [
  | inl t ↦ λ h. (collect, ap (λ ms. Some (Arrive ms collect)) ((bytes_eq-Decides others members).0 t), cond-true _ _ _ t)
  | inr f ↦ λ h. absurd (let e : arrivals_with members n (Some (Arrive others collect)) ≡ n = cond-false _ _ _ f in omega (arith, h, e))
]
rose_with members n _ = λ h. absurd (omega (arith, h))

-- the j-th arrival, where there are so many
pub nth_arrival : (plan : Plan) (m : ℕ) (members : List ℕ) (j n : ℕ) → 0 < j → j ≤ arrivals plan m members n → is_member members m ≡ true → (i : ℕ)
    × IsArrival plan members j (record { proc = m; at = i })
nth_arrival plan m members j zero pos le i = absurd (omega (arith, pos, le))
nth_arrival plan m members j (suc n) pos le i = elim (cases_lt (arrivals plan m members n) j) [
  | inr ge ↦ nth_arrival plan m members j n pos ge i
  | inl lt ↦ (let r = rose_with members (arrivals plan m members n) (kind_at plan m n) (omega (arith, lt, le)) in let up = r.2 in
      (n, record { collect = r.0; is = r.1; member = i; nth = omega (arith, up, le, lt) }))
]

-- no number has a property of which a least one is absurd
pub no_least : (P : ℕ → Type 0) → ((m : ℕ) → P m → ((k : ℕ) → k < m → P k → ⊥) → ⊥) → (n m : ℕ) → m < n → P m → ⊥
no_least P f zero m lt pm = absurd (omega (arith, lt))
no_least P f (suc n) m lt pm = f m pm (λ k below pk. no_least P f n k (omega (arith, lt, below)) pk)

-- a full fence all of whose arrivals are in the cut is complete there
pub complete_if_arrived : (plan : Plan) (cut : ℕ → ℕ) (members : List ℕ) (j : ℕ) → is_full plan members j ≡ true → ((z : Event) → IsArrival plan members j z → z.at < cut z.proc) →
    is_complete plan cut members j ≡ true
complete_if_arrived plan cut members j full arrived_ =
    list_all_of_members _ members (λ m i. le-leb _ _ (elim (cases_lt 0 j) [
      | inr none ↦ omega (arith, none)
      | inl pos ↦
          (let z = nth_arrival plan m members j (event_count plan m) pos (leb-true _ _ (list_all_at_member _ members m full i)) i in
          let rise = arrivals_rise plan m members (suc z.0) (cut m) (arrived_ _ z.1) in
          let nth = z.1.nth in
          omega (arith, rise, nth))
    ]))

module _ (plan : Plan) (settled : IsSettled plan) (cut later : ℕ → ℕ) (y : Event) (up : (m : ℕ) → cut m ≤ later m) (known : (z : Event) → Before plan z y → z.at < cut z.proc)
    (closed : ClosedCut plan later) (not_yet : later y.proc ≤ y.at) (live_y : Live plan y) (t key : ℕ) where
  -- nothing stored between the cuts is seen by a get-now on the owner's node
  pub stored_same : kind plan y ≡ Some (GetNow t key) → (y.proc ≡ t → ⊥) → same_node plan t y.proc ≡ true → stored plan t key (later t) ≡ stored plan t key (cut t)
  stored_same is other node = go (stored plan t key (cut t)) (stored plan t key (later t)) refl refl
    where
      go : (a b : Option ℕ) → stored plan t key (cut t) ≡ a → stored plan t key (later t) ≡ b → stored plan t key (later t) ≡ stored plan t key (cut t)
      go (Some v) b ea eb = stored_fixed plan settled t key (cut t) (later t) (up t) (ap is_some ea)
      go None None ea eb = eb ∙ sym ea
      go None (Some v) ea eb =
          let c = first_stores plan t key (later t) (ap is_some eb) in
          let x : Event = record { proc = t; at = c.0 } in
          let own_all = stored_own plan t key (event_count plan t) (stored_stays plan t key (later t) (event_count plan t) (closed.within t) (ap is_some eb)) in
          absurd (settled.no_node_race x y key (record {
            node = node;
            near = record {
              is = is;
              another = other;
              once = put_once plan settled t key (event_count plan t) own_all;
              stores = c.2;
              unordered = record {
                live_x = closed.all_live x c.1;
                live_y = live_y;
                not_before = λ before. true≢false (sym (stored_stays plan t key (suc c.0) (cut t) (known x before) c.2.something_after) ∙ ap is_some ea);
                not_after = λ before. let d = chain_in closed before c.1 in omega (arith, d, not_yet);
              };
            };
          }))

  -- a get's key is stored once all that is before it is done
  pub get_ready : kind plan y ≡ Some (Get t key) → (y.proc ≡ t → ⊥) → is_some (stored plan t key (cut t)) ≡ true
  get_ready is other =
      let promised = subst (λ b. b ≡ true) (cond-false _ _ _ (ne_eqb y.proc t other)) (subst (λ o. may_come plan y o ≡ true) is (live_may live_y)) in
      let all : is_some (stored plan t key (event_count plan t)) ≡ true = elim (or_cases _ _ promised) [
        | inl some ↦ some
        | inr twice ↦ absurd (let le = leb-true _ _ twice in let one = put_at_most_once plan settled t key (event_count plan t) in omega (arith, le, one))
      ] in
      let c = first_stores plan t key (event_count plan t) all in
      let x : Event = record { proc = t; at = c.0 } in
      let e : Edge plan x y = Feeds key is (λ eq. other (sym eq)) (put_once plan settled t key (event_count plan t) (stored_own plan t key (event_count plan t) all)) c.2 in
      stored_stays plan t key (suc c.0) (cut t) (known x (edge (live_source live_y e) e live_y)) c.2.something_after

  pub get_same : kind plan y ≡ Some (Get t key) → get_sees plan later y.proc y.at t key ≡ get_sees plan cut y.proc y.at t key
  get_same is = elim (cases_eq y.proc t) [
    | inl e ↦ cond-true _ _ _ (eq-eqb y.proc t e) ∙ sym (cond-true _ _ _ (eq-eqb y.proc t e))
    | inr other ↦ ap (λ v. cond (nat_eq y.proc t) (held (own plan t key y.at)) (served plan t (same_node plan t y.proc) v))
        (stored_fixed plan settled t key (cut t) (later t) (up t) (get_ready is other))
  ]
