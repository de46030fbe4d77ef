-- Who surely has a key before a get-now.
use Rattle.std.proofs.Common.{◌≡◌, ◌≢◌, ◌∙◌, sym, refl, subst, ℕ, suc, ◌<◌, ◌≤◌, true, false, List, Option, Some, None, is_some, ◌⊎◌, inl, inr, arith}
use Rattle.std.specs.Prelude.{slice_get}
use Rattle.std.proofs.lemmas.Bool.{true≢false, cases_lt, cases_eq}
use Rattle.wire_runs.specs.Plan.{Plan, Event, GetNow, kind, node_of, event_count, event_of}
use Rattle.wire_runs.specs.Fences.{is_member}
use Rattle.wire_runs.specs.Order.{IsArrival, Live, Before}
use Rattle.wire_runs.specs.Races.{Delivery, ByFence, ByGet, IsOf, FenceBringsAway}
use Rattle.wire_runs.specs.Placings.{Carries, HasSurely}
use Rattle.wire_plan.specs.Index.{IsDelivering, AreArrivals}
use Rattle.wire_runs.proofs.FenceChains.{one_member_tells, member_arrives}
use Rattle.wire_runs.proofs.Histories.{before_live, joined, same_process}
use Rattle.wire_fates.proofs.Gets.{first_before}
use Rattle.wire_fates.proofs.OwnFences.{member_there}
use Rattle.wire_fates.proofs.Surely.{delivering_within}
use Rattle.wire_anywhere.specs.Gets.{AreCarrying}
use Rattle.wire_types.specs.declared.Event.{Event as CodeEvent}
use Rattle.wire_anywhere.specs.Carriers.{IsSureAt, IsSureByFence, IsSureByGet, LacksSurely, IsEarliest, IsFirstOf}

-- a fence that brings a key away is one that brings it to its owner's node
abbrev pub delivering : (plan : Plan) (p key : ℕ) (members : List ℕ) (j : ℕ) → (b : FenceBringsAway plan p key members j) → IsDelivering plan p key (node_of plan p) b.at
delivering plan p key members j b = record { members = members; j = j; arrival = b.arrival; brings = record { away = b; reaches = member_there plan members p b.member } }

module _ (plan : Plan) (p key m : ℕ) (get : Event) where
  -- a fence that is sure of the owner's arrival brings the key to m surely
  pub by_fence : (owner other : ℕ) → kind plan get ≡ Some (GetNow owner other) → m ≢ p → IsSureByFence plan p key m get → HasSurely plan p key m get
  by_fence owner other is another (at, s) =
      let d = s.delivers in
      let all = (one_member_tells plan d.members d.j p at owner other get d.arrival is).sure.1 s.before in
      record {
        delivery = ByFence d.members d.j;
        carries = record { another = another; takes_part = s.member; brings_away = d.brings.away; all_live = λ z a. before_live (all z a) };
        all_before = all;
      }

  pub by_get : m ≢ p → IsSureByGet plan p key m get → HasSurely plan p key m get
  by_get another (z, b, its, before) = record {
    delivery = ByGet z;
    carries = record { another = another; takes_part = its; brings_away = b; all_live = λ v e. subst (Live plan) (sym e) (before_live before) };
    all_before = λ v e. subst (λ x. Before plan x get) (sym e) before;
  }

  -- there is no other way
  pub either_way : HasSurely plan p key m get → IsSureByFence plan p key m get ⊎ IsSureByGet plan p key m get
  either_way h = go h.delivery h.carries h.all_before
    where
      go : (d : Delivery) → Carries plan p key m d → ((z : Event) → IsOf plan d z → Before plan z get) → IsSureByFence plan p key m get ⊎ IsSureByGet plan p key m get
      go (ByFence members j) c all =
          let b : FenceBringsAway plan p key members j = c.brings_away in
          inl (b.at, record { delivers = delivering plan p key members j b; member = c.takes_part; before = all _ b.arrival })
      go (ByGet z) c all = inr (z, c.brings_away, c.takes_part, all z refl)

  -- none of the owner's first n events is such an arrival
  abbrev pub NoneSure : ℕ → Type 0
  NoneSure n = (at : ℕ) → at < n → IsSureAt plan p key m get at → ⊥

  -- who doesn't arrive at a fence of the key's is no member of it
  pub no_member : (at : ℕ) (d : IsDelivering plan p key (node_of plan p) at) (places : List Event) → AreArrivals plan d.members d.j places →
      ((k : ℕ) (z : Event) → slice_get places k ≡ Some z → z.proc ≢ m) → is_member d.members m ≡ true → ⊥
  no_member at d places are none member =
      let w = member_arrives plan d.members d.j m _ d.brings.away.full d.arrival member in
      let here = are.all _ w.1 in
      none here.0 _ here.1 refl

  -- and who does is one
  pub some_member : (at : ℕ) (d : IsDelivering plan p key (node_of plan p) at) (places : List Event) → AreArrivals plan d.members d.j places → (x : Event) → IsEarliest places m x →
      is_member d.members m ≡ true
  some_member at d places are x e = subst (λ q. is_member d.members q ≡ true) e.proc (are.only e.k x e.is).member

  -- where the owner makes no further delivery
  pub none_later : (from : ℕ) → ((k : ℕ) → from ≤ k → ¬ (IsDelivering plan p key (node_of plan p) k)) → NoneSure from → IsSureByFence plan p key m get → ⊥
  none_later from later none (at, s) = elim (cases_lt at from) [ inl lt ↦ none at lt s | inr ge ↦ later at ge s.delivers ]

  pub none_left : (from count : ℕ) → count ≡ event_count plan p → count ≤ from → NoneSure from → IsSureByFence plan p key m get → ⊥
  none_left from count is end =
      none_later from (λ k ge d. let lt = delivering_within plan p key (node_of plan p) k d in omega (arith, lt, is, end, ge))

  -- where one arrival isn't before the get, no later one is
  pub none_after : (from at : ℕ) → ((k : ℕ) → from ≤ k → k < at → ¬ (IsDelivering plan p key (node_of plan p) k)) → ¬ (Before plan (record { proc = p; at = at }) get) → NoneSure from →
      IsSureByFence plan p key m get → ⊥
  none_after from at others not none (k, s) = elim (cases_lt k from) [
    | inl lt ↦ none k lt s
    | inr ge ↦ elim (cases_lt k at) [
      | inl sooner ↦ others k ge sooner s.delivers
      | inr le ↦ elim (cases_eq at k) [
        | inl e ↦ not (subst (λ n. Before plan (record { proc = p; at = n }) get) (sym e) s.before)
        | inr ne ↦ not (joined (same_process plan (record { proc = p; at = at }) (record { proc = p; at = k }) (before_live s.before) refl (omega (arith, le, ne))) s.before)
      ]
    ]
  ]

  -- an arrival at a fence of which m isn't a member
  pub none_here : (from at next : ℕ) (places : List Event) → next ≡ suc at → ((k : ℕ) → from ≤ k → k < at → ¬ (IsDelivering plan p key (node_of plan p) k)) →
      ((members : List ℕ) (j : ℕ) → IsArrival plan members j (record { proc = p; at = at }) → AreArrivals plan members j places) →
      ((k : ℕ) (z : Event) → slice_get places k ≡ Some z → z.proc ≢ m) → NoneSure from → NoneSure next
  none_here from at next places one others those none before k lt s = elim (cases_lt k from) [
    | inl low ↦ before k low s
    | inr ge ↦ elim (cases_lt k at) [
      | inl sooner ↦ others k ge sooner s.delivers
      | inr le ↦ (
          let e : k ≡ at = omega (arith, lt, one, le) in
          let d = s.delivers in
          no_member k d places (those d.members d.j (subst (λ n. IsArrival plan d.members d.j (record { proc = p; at = n })) e d.arrival)) none s.member)
    ]
  ]

  -- an arrival at one of which m is
  pub sure_here : (at : ℕ) → IsDelivering plan p key (node_of plan p) at → (places : List Event) →
      ((members : List ℕ) (j : ℕ) → IsArrival plan members j (record { proc = p; at = at }) → AreArrivals plan members j places) → (x : Event) → IsEarliest places m x →
      Before plan (record { proc = p; at = at }) get → IsSureByFence plan p key m get
  sure_here at d places those x e before = (at, record { delivers = d; member = some_member at d places (those d.members d.j d.arrival) x e; before = before })

  -- a get of m's that is before the get
  module _ (places : List Event) (are : AreCarrying plan p key places) where
    pub first_is_before : (x : Event) → IsEarliest places m x → Before plan x get → IsSureByGet plan p key m get
    first_is_before x e before = (x, are.only e.k x e.is, e.proc, before)

    pub then_first : (x : Event) → IsEarliest places m x → IsSureByGet plan p key m get → Before plan x get
    then_first x e (z, b, its, before) =
        let at = are.all z b in
        first_before plan x z (record { same = e.proc ∙ sym its; upto = e.first at.0 z at.1 its }) get before

    pub then_none : ((k : ℕ) (z : Event) → slice_get places k ≡ Some z → z.proc ≢ m) → IsSureByGet plan p key m get → ⊥
    then_none none (z, b, its, before) = let at = are.all z b in none at.0 z at.1 its

-- what a look at the fences and at the gets tells
pub not_lacking : (plan : Plan) (p key m : ℕ) (get : Event) (owner other : ℕ) → kind plan get ≡ Some (GetNow owner other) → IsSureByFence plan p key m get ⊎ IsSureByGet plan p key m get →
    LacksSurely plan p key get m → ⊥
not_lacking plan p key m get owner other is (inl s) l = l.1 (by_fence plan p key m get owner other is l.0 s)
not_lacking plan p key m get owner other is (inr s) l = l.1 (by_get plan p key m get l.0 s)

pub is_lacking : (plan : Plan) (p key m : ℕ) (get : Event) → m ≢ p → (IsSureByFence plan p key m get → ⊥) → (IsSureByGet plan p key m get → ⊥) → LacksSurely plan p key get m
is_lacking plan p key m get another no_fence no_get = (another, λ h. elim (either_way plan p key m get h) [ inl s ↦ no_fence s | inr s ↦ no_get s ])

-- what is found, if anything, is the process's first event
pub found_first : (places : List Event) (m : ℕ) (found : Option CodeEvent) → is_some found ≡ true → IsFirstOf places m found → (x : Event) × IsEarliest places m x
found_first places m None e f = absurd (true≢false (sym e))
found_first places m (Some x) e f = (event_of x, f)

pub found_none : (places : List Event) (m : ℕ) (found : Option CodeEvent) → is_some found ≡ false → IsFirstOf places m found → (k : ℕ) (z : Event) → slice_get places k ≡ Some z → z.proc ≢ m
found_none places m None e f = f
found_none places m (Some x) e f = absurd (true≢false e)
