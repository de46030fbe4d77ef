-- The arrivals at a fence, and a get.
use Rattle.std.proofs.Common.{◌≡◌, ◌∙◌, ap, refl, sym, subst, ℕ, suc, ◌<◌, ◌≤◌, List, length, Bool, true, false, Option, Some, None, arith, inl, inr}
use Rattle.std.specs.Prelude.{slice_get, is_some, not, IsTrue, ◌↔◌, MatchOption}
use Rattle.std.proofs.lemmas.Bool.{cases_eq, cases_lt, true≢false}
use Rattle.std.proofs.lemmas.Option.{same_Some, slice_get_within}
use Rattle.wire_runs.specs.Plan.{Plan, Event, Leave, kind, event_of}
use Rattle.wire_runs.specs.Fences.{arrivals}
use Rattle.wire_types.specs.declared.place.Event.{Event as CodeEvent}
use Rattle.wire_runs.specs.Order.{IsArrival, Live, Before}
use Rattle.wire_plan.specs.Index.{AreArrivals}
use Rattle.wire_runs.proofs.Basics.{arrivals_rise, arrivals_step}
use Rattle.wire_fates.proofs.First.{members_in}
use Rattle.wire_fates.proofs.Sooner.{sooner_live, sooner_before}
use Rattle.wire_fates.specs.Deliveries.{Arrives, AreOfRising, IsBehindOwn, IsSure, MayBeLate, IsLate, AllLive, NoneAfter, AreBefore, IsLateAt, IsFirstLate}

-- an arrival is at one fence
pub same_fence : (plan : Plan) (z : Event) (m n : List ℕ) (j k : ℕ) → IsArrival plan m j z → IsArrival plan n k z → (m ≡ n) × (j ≡ k)
same_fence plan z m n j k a b =
    let e : m ≡ n = ap members_in (same_Some _ _ (sym a.is ∙ b.is)) in
    (e, sym a.nth ∙ ap (λ ms. arrivals plan z.proc ms (suc z.at)) e ∙ b.nth)

pub arrival_of : (plan : Plan) (z w : Event) (m n : List ℕ) (j k : ℕ) → IsArrival plan m j z → IsArrival plan n k z → IsArrival plan m j w → IsArrival plan n k w
arrival_of plan z w m n j k a b c =
    let e = same_fence plan z m n j k a b in
    subst (λ i. IsArrival plan n i w) e.1 (subst (λ ms. IsArrival plan ms j w) e.0 c)

earlier_arrival : (plan : Plan) (x y : Event) (members : List ℕ) (j : ℕ) → x.proc ≡ y.proc → IsArrival plan members j x → IsArrival plan members j y → x.at < y.at → ⊥
earlier_arrival plan x y members j same a b lt =
    let rise = arrivals_rise plan y.proc members (suc x.at) y.at lt in
    let step = arrivals_step plan y.proc members b.collect y.at b.is in
    let one : arrivals plan y.proc members (suc x.at) ≡ j = ap (λ p. arrivals plan p members (suc x.at)) (sym same) ∙ a.nth in
    let two = b.nth in
    omega (arith, rise, step, one, two)

-- a process arrives at a fence once
pub arrives_once : (plan : Plan) (x y : Event) (members : List ℕ) (j : ℕ) → x.proc ≡ y.proc → IsArrival plan members j x → IsArrival plan members j y → x ≡ y
arrives_once plan x y members j same a b = elim (cases_lt x.at y.at) [
  | inl lt ↦ absurd (earlier_arrival plan x y members j same a b lt)
  | inr ge ↦ elim (cases_lt y.at x.at) [
    | inl lt ↦ absurd (earlier_arrival plan y x members j (sym same) b a lt)
    | inr le ↦ (let at : x.at ≡ y.at = omega (arith, ge, le) in λ i. record { proc = same i; at = at i })
  ]
]

-- one event of a fence is late first
pub late_once : (plan : Plan) (get arrival x y : Event) → IsLate plan get arrival x → IsLate plan get arrival y → y ≡ x
late_once plan get arrival x y a b =
    let m = a.may.fence.members in
    let j = a.may.fence.j in
    let there = arrival_of plan arrival y b.may.fence.members m b.may.fence.j j b.may.fence.arrival a.may.fence.arrival b.of_it in
    let back = arrival_of plan arrival x m b.may.fence.members j b.may.fence.j a.may.fence.arrival b.may.fence.arrival a.of_it in
    let low = a.first y there b.not_before in
    let high = b.first x back a.not_before in
    let same : y.proc ≡ x.proc = omega (arith, low, high) in
    arrives_once plan y x m j same there a.of_it

pub ended : (plan : Plan) (arrival end : Event) (members : List ℕ) (j : ℕ) → IsArrival plan members j arrival → end.proc ≡ arrival.proc → end.at ≡ suc arrival.at →
    kind plan end ≡ Some (Leave members) → arrivals plan end.proc members end.at ≡ j
ended plan arrival end members j a proc next is = ap (λ p. arrivals plan p members end.at) proc ∙ ap (arrivals plan arrival.proc members) next ∙ a.nth

-- one place more
pub one_more : (holds : Event → Type 0) (places : List Event) (n m : ℕ) (x : Event) → m ≡ suc n → slice_get places n ≡ Some x → ((k : ℕ) (z : Event) → k < n → slice_get places k ≡ Some z → holds z) →
    holds x → (k : ℕ) (z : Event) → k < m → slice_get places k ≡ Some z → holds z
one_more holds places n m x one at before here k z lt is = elim (cases_eq k n) [
  | inl same ↦ subst holds (same_Some _ _ (sym at ∙ subst (λ i. slice_get places i ≡ Some z) same is)) here
  | inr other ↦ before k z (omega (arith, lt, one, other)) is
]

-- all places
pub all_places : (holds : Event → Type 0) (places : List Event) (n : ℕ) → length places ≤ n → ((k : ℕ) (z : Event) → k < n → slice_get places k ≡ Some z → holds z) → (k : ℕ) (z : Event) →
    slice_get places k ≡ Some z → holds z
all_places holds places n le before k z is = before k z (let lt = slice_get_within places k z is in omega (arith, lt, le)) is

module _ (plan : Plan) (get arrival : Event) (fence : Arrives plan arrival) (places : List Event)
    (those : (members : List ℕ) (j : ℕ) → IsArrival plan members j arrival → AreArrivals plan members j places) where
  are : AreArrivals plan fence.members fence.j places
  are = those fence.members fence.j fence.arrival

  index_of : (members : List ℕ) (j : ℕ) → IsArrival plan members j arrival → (z : Event) → IsArrival plan members j z → (k : ℕ) × (slice_get places k ≡ Some z)
  index_of members j a z h = (those members j a).all z h

  -- one of each process, the lower first
  pub of_rising : AreOfRising places
  of_rising k l y z lt at_y at_z = elim (are.rising k l y z lt at_y at_z) [
    | inl lower ↦ lower
    | inr same ↦ absurd (earlier_arrival plan y z fence.members fence.j same.0 (are.only k y at_y) (are.only l z at_z) same.1)
  ]

  -- a sure fence, by the list of its arrivals
  pub sure_there : AllLive plan places → AreBefore plan get places (length places) → IsSure plan get arrival
  sure_there alive before = record {
    fence = fence;
    all_live = λ z h. let i = are.all z h in alive i.0 z i.1;
    all_before = λ z h. let i = are.all z h in before i.0 z (slice_get_within places i.0 z i.1) i.1;
  }

  -- a live get behind its own process's arrival
  pub behind_sure : IsBehindOwn get places → Live plan get → IsSure plan get arrival
  behind_sure b alive =
      let own = subst (λ p. IsArrival plan fence.members fence.j (record { proc = p; at = b.own.at })) b.same (are.only b.k b.own b.is) in
      record {
        fence = fence;
        all_live = λ z h. sooner_live plan get.proc b.own.at get.at fence.members fence.j own b.earlier alive z h;
        all_before = λ z h. sooner_before plan get.proc b.own.at get.at fence.members fence.j own b.earlier alive z h;
      }

  pub sure_live : IsSure plan get arrival → AllLive plan places
  sure_live s k z is = s.all_live z ((those s.fence.members s.fence.j s.fence.arrival).only k z is)

  pub sure_before : IsSure plan get arrival → (k : ℕ) (z : Event) → slice_get places k ≡ Some z → Before plan z get
  sure_before s k z is = s.all_before z ((those s.fence.members s.fence.j s.fence.arrival).only k z is)

  -- the first late arrival
  pub late_there : (x : Event) → MayBeLate plan get arrival → IsLateAt plan get places x → IsLate plan get arrival x
  late_there x m l = record {
    may = m;
    of_it = (those m.fence.members m.fence.j m.fence.arrival).only l.k x l.is;
    not_before = l.not_before;
    first = λ z h late. (
        let i = index_of m.fence.members m.fence.j m.fence.arrival z h in
        elim (cases_lt i.0 l.k) [
          | inl lt ↦ absurd (late (l.others i.0 z lt i.1))
          | inr ge ↦ elim (cases_eq i.0 l.k) [
            | inl same ↦ (let e : x ≡ z = same_Some _ _ (sym l.is ∙ subst (λ n. slice_get places n ≡ Some z) same i.1) in let p = ap (λ (v : Event). v.proc) e in omega (arith, p))
            | inr other ↦ elim (are.rising l.k i.0 x z (omega (arith, ge, other)) l.is i.1) [
              | inl lt ↦ omega (arith, lt)
              | inr s ↦ (let p = s.0 in omega (arith, p))
            ]
          ]
        ]);
  }

  pub may_there : AllLive plan places → NoneAfter plan get places → MayBeLate plan get arrival
  may_there alive none_after = record {
    fence = fence;
    all_live = λ z h. let i = are.all z h in alive i.0 z i.1;
    before_none = λ z h. let i = are.all z h in none_after i.0 z i.1;
  }

  pub may_live : MayBeLate plan get arrival → AllLive plan places
  may_live m k z is = m.all_live z ((those m.fence.members m.fence.j m.fence.arrival).only k z is)

  pub may_none_after : MayBeLate plan get arrival → NoneAfter plan get places
  may_none_after m k z is = m.before_none z ((those m.fence.members m.fence.j m.fence.arrival).only k z is)

  pub late_not_before : (x : Event) → IsLate plan get arrival x → AreBefore plan get places (length places) → ⊥
  late_not_before x l before =
      let i = index_of l.may.fence.members l.may.fence.j l.may.fence.arrival x l.of_it in
      l.not_before (before i.0 x (slice_get_within places i.0 x i.1) i.1)

  -- a fence whose arrivals are live is sure where none of them is late
  pub sure_tells : (found : Option CodeEvent) (b : Bool) → is_some found ≡ not b → IsFirstLate plan get places found → AllLive plan places → IsTrue b ↔ IsSure plan get arrival
  sure_tells None true e first alive = ((λ t. sure_there alive first), (λ s. refl))
  sure_tells None false e first alive = absurd (true≢false (sym e))
  sure_tells (Some x) true e first alive = absurd (true≢false e)
  sure_tells (Some x) false e first alive = (
    (λ t. absurd (true≢false (sym t))),
    (λ s. absurd (first.not_before (sure_before s first.k (event_of x) first.is))),
  )

  pub late_tells : (found : Option CodeEvent) → IsFirstLate plan get places found → MayBeLate plan get arrival →
      MatchOption found ((x : Event) → IsLate plan get arrival x → ⊥) (λ x. IsLate plan get arrival (event_of x))
  late_tells None first may = λ x l. late_not_before x l first
  late_tells (Some x) first may = late_there (event_of x) may first
