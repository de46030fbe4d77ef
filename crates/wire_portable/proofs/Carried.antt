-- What may bring a key to a get that is answered at once.
use Rattle.std.proofs.Common.{◌≡◌, ◌≢◌, ◌∙◌, ap, sym, refl, subst, ℕ, suc, ◌<◌, ◌≤◌, ◌-◌, ◌==◌, List, Bool, true, false, Option, Some, None, is_some, ◌⊎◌, inl, inr, arith, eq-eqb}
use Rattle.std.specs.Prelude.{slice_get, length}
use Rattle.std.proofs.lemmas.Bool.{cases_eq, cases_lt, true≢false}
use Rattle.std.proofs.lemmas.Option.{same_Some, slice_get_within}
use Rattle.wire_types.specs.declared.Event.{Event as CodeEvent}
use Rattle.wire_types.specs.declared.Proc.{Proc}
use Rattle.wire_runs.specs.Plan.{Plan, Event, Kind, Get, GetNow, Arrive, kind, event_of, event_count, node_of, same_node}
use Rattle.wire_runs.specs.Puts.{stored}
use Rattle.wire_runs.specs.Order.{Stores, IsArrival, Edge, Follows, Meets, Feeds, Announces, may_come, Live, live, Before}
use Rattle.wire_runs.specs.Races.{Delivery, IsOf, IsPutOnce, FenceBringsAway}
use Rattle.wire_runs.specs.EventLists.{AreAll}
use Rattle.wire_runs.proofs.Puts.{first_stores}
use Rattle.wire_runs.proofs.Due.{place_path}
use Rattle.wire_runs.proofs.Histories.{before_live, joined, same_process}
use Rattle.wire_runs.proofs.FenceChains.{leave_of, leave_live, late_by_leave}
use Rattle.wire_plan.specs.Index.{IsDelivering}
use Rattle.wire_plan.proofs.Delivering.{here}
use Rattle.wire_plan.proofs.KeyFacts.{stores_once}
use Rattle.wire_fates.specs.Deliveries.{AreOfOne}
use Rattle.wire_fates.proofs.Arrivals.{one_more}
use Rattle.wire_fates.proofs.Gets.{between, later_after}
use Rattle.wire_fates.proofs.OwnFences.{member_there}
use Rattle.wire_library_laws.specs.Portable.{IsAsked, IsFor, ComesWithin, fence, get, SeesNothing, SeesNoRemote}
use Rattle.wire_library_laws.specs.Anywhere.{MayBringAway, fence as fence_away, get as get_away}
use Rattle.wire_portable.specs.Gets.{place_in}
use Rattle.wire_portable.specs.Judging.{NoRewrites, IsLiveStore, AreFor}
use Rattle.wire_portable.specs.Searched.{MayBe}
use Rattle.wire_portable.specs.Nows.{GetsAreFor, AreGetsOf, AreListedGets, AreForReaders, NeverAway, IsFoundAway, MayCarry, GetsComeLater, FencesComeLater}
use Rattle.wire_portable.proofs.Firsts.{live_asked}
use Rattle.wire_portable.proofs.AtMostOnce.{got_commit}

abbrev owner_in : Kind → ℕ
owner_in (Get owner key) = owner
owner_in _ = 0

abbrev key_in : Kind → ℕ
key_in (Get owner key) = key
key_in _ = 0

-- a get is of one key of one owner
pub same_owner : (plan : Plan) (z : Event) (p q key other : ℕ) → kind plan z ≡ Some (Get p key) → kind plan z ≡ Some (Get q other) → p ≡ q
same_owner plan z p q key other a b = ap owner_in (same_Some _ _ (sym a ∙ b))

pub same_key : (plan : Plan) (z : Event) (p q key other : ℕ) → kind plan z ≡ Some (Get p key) → kind plan z ≡ Some (Get q other) → key ≡ other
same_key plan z p q key other a b = ap key_in (same_Some _ _ (sym a ∙ b))

pub some_of : (o : Option ℕ) → is_some o ≡ true → (u : ℕ) × (o ≡ Some u)
some_of None t = absurd (true≢false (sym t))
some_of (Some u) t = (u, refl)

-- a get-now that is asked is live
pub now_live : (plan : Plan) (g : Event) (p key : ℕ) → kind plan g ≡ Some (GetNow p key) → IsAsked plan g → Live plan g
now_live plan g p key is asked = live (ap (may_come plan g) is) source
  where
    source : (x : Event) → Edge plan x g → Live plan x
    source x (Follows same next) = asked x (record { same = same; next = next })
    source x (Meets members leave a) = absurd (let here : kind plan g ≡ Some (GetNow p key) = is in cc)
    source x (Feeds k gets ne once stores) = absurd (let here : kind plan g ≡ Some (GetNow p key) = is in cc)
    source x (Announces name lookup once) = absurd (let here : kind plan g ≡ Some (GetNow p key) = is in cc)

-- and arrives nowhere
no_arrival : (plan : Plan) (g : Event) (p key : ℕ) (members : List ℕ) (j : ℕ) → kind plan g ≡ Some (GetNow p key) → IsArrival plan members j g → ⊥
no_arrival plan g p key members j is a = let here : kind plan g ≡ Some (Arrive members a.collect) = a.is in cc

-- what is before an event that isn't later than one of its process is before that one
up_to : (plan : Plan) (g x y : Event) → Live plan y → x.proc ≡ y.proc → x.at ≤ y.at → Before plan g x → Before plan g y
up_to plan g x y l same le b = elim (cases_eq x.at y.at) [
  | inl e ↦ subst (Before plan g) (λ t. record { proc = same t; at = e t }) b
  | inr ne ↦ joined b (same_process plan x y l same (omega (arith, le, ne)))
]

live_up_to : (plan : Plan) (x y : Event) → Live plan y → x.proc ≡ y.proc → x.at ≤ y.at → Live plan x
live_up_to plan x y l same le = elim (cases_eq x.at y.at) [
  | inl e ↦ subst (Live plan) (λ t. record { proc = sym same t; at = sym e t }) l
  | inr ne ↦ before_live (same_process plan x y l same (omega (arith, le, ne)))
]

module _ (plan : Plan) (p key : ℕ) where
  -- where a key is there after a live event, the commit that stores it is live, and no later
  stored_by : (x : Event) (n : ℕ) → x.proc ≡ p → Live plan x → n ≤ suc x.at → is_some (stored plan p key n) ≡ true →
      (c : Event) × (c.proc ≡ p) × Stores plan c key × (c.at ≤ x.at) × Live plan c
  stored_by x n its l le some =
      let f = first_stores plan p key n some in
      let c : Event = here p f.0 in
      let lt = f.1 in
      let upto : f.0 ≤ x.at = omega (arith, lt, le) in
      (c, refl, f.2, upto, live_up_to plan c x l (sym its) upto)

  -- no live commit stores it
  pub never_comes : ((x : Event) → x.proc ≡ p → Stores plan x key → Live plan x → ⊥) → NeverAway plan p key
  never_comes never x n u its l le is admitted = let c = stored_by x n its l le (ap is_some is) in never c.0 c.1 c.2 c.4

  -- it isn't put once
  pub not_once : (NoRewrites plan → (n : ℕ) → stored plan p key n ≡ None) → NoRewrites plan → NeverAway plan p key
  not_once none once x n u its l le is admitted = true≢false (sym (ap is_some is) ∙ ap is_some (none once n))

  -- it is for the owner's node alone
  pub only_near : AreFor plan p key false false → NeverAway plan p key
  only_near are x n u its l le is admitted = true≢false (sym admitted ∙ are n u is)

  -- a get-now on the owner's node
  module _ (g : Event) where
    pub unseen_never : ((x : Event) → x.proc ≡ p → Stores plan x key → Live plan x → ⊥) → SeesNoRemote plan p key g
    unseen_never never x u its l is outside = let c = stored_by x (suc x.at) its l (omega arith) (ap is_some is) in absurd (never c.0 c.1 c.2 c.4)

    pub unseen_near : AreFor plan p key true true → SeesNoRemote plan p key g
    unseen_near are x u its l is outside = absurd (true≢false (sym (are (suc x.at) u is) ∙ outside))

    pub unseen_before : (s : Event) → s.proc ≡ p → Stores plan s key → Before plan g s → SeesNoRemote plan p key g
    unseen_before s own stores b x u its l is outside =
        let c = stored_by x (suc x.at) its l (omega arith) (ap is_some is) in
        let same : s ≡ c.0 = stores_once plan s c.0 key (own ∙ sym c.1) stores c.2 in
        up_to plan g c.0 x l (c.1 ∙ sym its) c.3 (subst (Before plan g) same b)

  -- fences
  module _ (g : Event) (is : kind plan g ≡ Some (GetNow p key)) (node : ℕ) where
    pub no_fences : ((at : ℕ) → 0 ≤ at → IsDelivering plan p key node at → ⊥) → FencesComeLater plan p key node g
    no_fences none at d lives = absurd (none at (omega arith) d)

    -- the owner's end of a fence whose arrivals are live is live
    end_live : (at : ℕ) (d : IsDelivering plan p key node at) → ((z : Event) → IsArrival plan d.members d.j z → Live plan z) → Live plan (here p (suc at))
    end_live at d lives = leave_live plan d.members d.j (here p (suc at)) (leave_of plan d.members d.j p at d.arrival) d.brings.away.full lives

    module _ (first : ℕ) (d : IsDelivering plan p key node first) (others : (at : ℕ) → 0 ≤ at → at < first → IsDelivering plan p key node at → ⊥) where
      -- the end of the first fence isn't later than the arrival at another
      end_sooner : (at : ℕ) → IsDelivering plan p key node at → (at ≡ first) ⊎ (suc first ≤ at)
      end_sooner at e = elim (cases_lt at first) [
        | inl lt ↦ absurd (others at (omega arith) lt e)
        | inr ge ↦ elim (cases_eq at first) [ inl same ↦ inl same | inr ne ↦ inr (omega (arith, ge, ne)) ]
      ]

      -- where the first fence doesn't end, none brings the key
      pub fences_never : (Live plan (here p (suc first)) → ⊥) → FencesComeLater plan p key node g
      fences_never dead at e lives = absurd (dead (elim (end_sooner at e) [
        | inl same ↦ subst (λ n. Live plan (here p (suc n))) same (end_live at e lives)
        | inr le ↦ live_up_to plan (here p (suc first)) (here p at) (lives (here p at) e.arrival) refl le
      ]))

      -- where g is before its end, g is before an arrival at each
      pub fences_later : Before plan g (here p (suc first)) → FencesComeLater plan p key node g
      fences_later b at e lives = elim (end_sooner at e) [
        | inl same ↦
            (let l = leave_of plan e.members e.j p at e.arrival in
            (late_by_leave plan e.members e.j (here p (suc at)) g e.brings.away.full lives l (no_arrival plan g p key e.members e.j is)).1
            (subst (λ n. Before plan g (here p (suc n))) (sym same) b))
        | inr le ↦ (here p at, e.arrival, up_to plan g (here p (suc first)) (here p at) (lives (here p at) e.arrival) refl le b)
      ]

      module _ (e : CodeEvent) (own : e.proc.number ≡ p) (next : e.at ≡ suc first) where
        its_end : event_of e ≡ here p (suc first)
        its_end = place_path (event_of e) p (suc first) own next

        pub dead_end : (Live plan (event_of e) → ⊥) → FencesComeLater plan p key node g
        dead_end dead = fences_never (λ l. dead (subst (Live plan) (sym its_end) l))

        pub later_end : Before plan g (event_of e) → FencesComeLater plan p key node g
        later_end b = fences_later (subst (Before plan g) its_end b)

  -- gets
  pub not_get : (z : Event) → ((owner other : ℕ) → kind plan z ≡ Some (Get owner other) → ⊥) → MayCarry plan p key z → ⊥
  not_get z never c = never p c.other_key c.is

  pub dead_get : (z : Event) → (Live plan z → ⊥) → MayCarry plan p key z → ⊥
  dead_get z dead c = dead c.is_live

  -- one of another key that ends before the commit
  pub ended_get : (z : Event) (owner other : ℕ) (s : Event) → kind plan z ≡ Some (Get owner other) → (other ≡ key → ⊥) → s.proc ≡ p → Stores plan s key → Before plan z s → MayCarry plan p key z → ⊥
  ended_get z owner other s is ne own stores b c =
      let w = c.within (λ e. ne (same_key plan z owner p other c.other_key is c.is ∙ e)) in
      w.late (subst (Before plan z) (stores_once plan s w.commit key (own ∙ sym w.its) stores w.stores) b)

  -- one of the first n of these events, if it may bring the key, comes later
  abbrev pub ComeLaterTo : Event → List Event → ℕ → Type 0
  ComeLaterTo g places n = (k : ℕ) (z : Event) → k < n → slice_get places k ≡ Some z → MayCarry plan p key z → Before plan g z

  module _ (g : Event) (places : List Event) where
    -- places that stand for themselves
    as_all : AreGetsOf plan p places → AreAll (λ z. (k : ℕ) × (slice_get places k ≡ Some z)) places
    as_all are = record { only = λ k z is. (k, is); all = λ z h. h; rising = are.rising }

    -- where the get-now is before one get of a process, it is before the later ones
    pub later_too : (are : AreGetsOf plan p places) (n m : ℕ) (y : Event) → slice_get places n ≡ Some y → Before plan g y → AreOfOne places n (m - 1) → ComeLaterTo g places n → ComeLaterTo g places m
    later_too are n m y is b one before k z lt at c = elim (cases_lt k n) [
      | inl low ↦ before k z low at c
      | inr high ↦
          (let w = between (λ z. (k : ℕ) × (slice_get places k ≡ Some z)) places (as_all are) n k m z high lt one at in
          let same : w.0 ≡ y = same_Some _ _ (sym w.1 ∙ is) in
          later_after plan w.0 z w.2 g c.is_live (subst (Before plan g) (sym same) b))
    ]

    -- one more, which brings nothing
    pub never_more : (n m : ℕ) (y : Event) → m ≡ suc n → slice_get places n ≡ Some y → (MayCarry plan p key y → ⊥) → ComeLaterTo g places n → ComeLaterTo g places m
    never_more n m y one is never before =
        one_more (λ z. MayCarry plan p key z → Before plan g z) places n m y one is before (λ c. absurd (never c))

    pub all_later : (n : ℕ) → length places ≤ n → ComeLaterTo g places n → GetsComeLater plan p key g places
    all_later n end before k z at c = let lt = slice_get_within places k z at in before k z (omega (arith, lt, end)) at c

-- what is found of a key that is put once, for other nodes
pub found_away : (plan : Plan) (owner : Proc) (key : ℕ) (found : Option CodeEvent) → IsPutOnce plan owner.number key → (NoRewrites plan → AreFor plan owner.number key false true) → IsLiveStore plan owner key found →
    IsFoundAway plan owner key found
found_away plan owner key None one are never = λ once. never_comes plan owner.number key never
found_away plan owner key (Some x) one are found = record { its = found.0; stores = found.1; is_live = found.2; once = one; for_others = are }

-- an event of a process within the plan, its process told by another name
pub within_own : (plan : Plan) (p q at : ℕ) → q ≡ p → at < event_count plan p → at < event_count plan q
within_own plan p q at same lt = subst (λ r. at < event_count plan r) (sym same) lt

-- where nothing comes to another node, a get-now there sees nothing
module _ (plan : Plan) (p key : ℕ) (g : Event) (places : List Event) where
  near_or_not : same_node plan p g.proc ≡ false → (z : Event) → node_of plan z.proc ≡ node_of plan g.proc → z.proc ≡ p → ⊥
  near_or_not far z there own = true≢false (sym (eq-eqb (node_of plan p) (node_of plan g.proc) (ap (node_of plan) (sym own) ∙ there)) ∙ far)

  -- a live get of the key itself
  self_carried : NoRewrites plan → NeverAway plan p key → (z : Event) → kind plan z ≡ Some (Get p key) → z.proc ≢ p → Live plan z → IsFor plan p key false → ⊥
  self_carried once never z is ne l fits =
      let c = got_commit plan p key once z is ne l in
      let s = some_of (stored plan p key (suc c.0.at)) (subst (λ q. is_some (stored plan q key (suc c.0.at)) ≡ true) c.1 c.2.something_after) in
      never c.0 (suc c.0.at) s.0 c.1 c.3 (omega arith) s.1 (fits c.0 s.0 c.1 c.3 s.1)

  within_never : NeverAway plan p key → (z : Event) → ComesWithin plan p key z → ⊥
  within_never never z c = never c.commit (suc c.commit.at) c.put c.its c.is_live (omega arith) c.here c.admitted

  away_never : NeverAway plan p key → (members : List ℕ) (j : ℕ) → FenceBringsAway plan p key members j → ((z : Event) → IsArrival plan members j z → Live plan z) → ⊥
  away_never never members j b lives = never (here p b.at) b.at b.put refl (lives (here p b.at) b.arrival) (omega arith) b.committed b.admitted

  -- a get at g's node is listed
  listed : (anywhere : Bool) → AreListedGets anywhere plan p g places → (z : Event) (other : ℕ) → kind plan z ≡ Some (Get p other) → z.proc ≢ p → place_in anywhere plan z.proc ≡ place_in anywhere plan g.proc →
      Live plan z → (k : ℕ) × (slice_get places k ≡ Some z)
  listed anywhere are z other is ne there l = are.all z (record { key = other; is = is; other = ne; asked = live_asked plan z l; there = there })

  get_never : (anywhere : Bool) → NoRewrites plan → NeverAway plan p key → AreListedGets anywhere plan p g places → AreForReaders plan p places → (z : Event) (other : ℕ) → kind plan z ≡ Some (Get p other) →
      z.proc ≢ p → place_in anywhere plan z.proc ≡ place_in anywhere plan g.proc → Live plan z → (other ≢ key → ComesWithin plan p key z) → ⊥
  get_never anywhere once never are fits z other is ne there l within = elim (cases_eq other key) [
    | inl e ↦
        (let self = is ∙ ap (λ k. Some (Get p k)) e in
        let at = listed anywhere are z other is ne there l in
        self_carried once never z self ne l (fits at.0 z key at.1 self))
    | inr differ ↦ within_never never z (within differ)
  ]

  pub nothing_there : same_node plan p g.proc ≡ false → NoRewrites plan → NeverAway plan p key → AreListedGets false plan p g places → AreForReaders plan p places → SeesNothing plan p key g
  nothing_there far once never are fits _ (fence {members = members} {j = j} delivers lives) = absurd (away_never never members j delivers.away lives)
  nothing_there far once never are fits _ (get {g = z} other is there l within) = absurd (get_never false once never are fits z other is (near_or_not far z there) there l within)

  pub nothing_away : NoRewrites plan → NeverAway plan p key → AreListedGets true plan p g places → AreForReaders plan p places → (d : Delivery) → MayBringAway plan p key d → (z : Event) × IsOf plan d z × Before plan g z
  nothing_away once never are fits _ (fence_away {members = members} {j = j} brings lives) = absurd (away_never never members j brings lives)
  nothing_away once never are fits _ (get_away {g = z} other is ne l within) = absurd (get_never true once never are fits z other is ne refl l within)

  -- where all that may bring the key comes later, it sees nothing
  carried : (z : Event) (other : ℕ) → kind plan z ≡ Some (Get p other) → Live plan z → (other ≢ key → ComesWithin plan p key z) → MayCarry plan p key z
  carried z other is l within = record { other_key = other; is = is; is_live = l; within = within }

  pub later_there : same_node plan p g.proc ≡ false → FencesComeLater plan p key (node_of plan g.proc) g → GetsComeLater plan p key g places → AreListedGets false plan p g places → SeesNothing plan p key g
  later_there far fences gets are _ (fence {members = members} {j = j} delivers lives) =
      fences delivers.away.at (record { members = members; j = j; arrival = delivers.away.arrival; brings = delivers }) lives
  later_there far fences gets are _ (get {g = z} other is there l within) =
      let at = listed false are z other is (near_or_not far z there) there l in
      (z, refl, gets at.0 z at.1 (carried z other is l within))

  pub later_away : FencesComeLater plan p key (node_of plan p) g → GetsComeLater plan p key g places → AreListedGets true plan p g places → (d : Delivery) → MayBringAway plan p key d →
      (z : Event) × IsOf plan d z × Before plan g z
  later_away fences gets are _ (fence_away {members = members} {j = j} b lives) =
      fences b.at (record { members = members; j = j; arrival = b.arrival; brings = record { away = b; reaches = member_there plan members p b.member } }) lives
  later_away fences gets are _ (get_away {g = z} other is ne l within) =
      let at = listed true are z other is ne refl l in
      (z, refl, gets at.0 z at.1 (carried z other is l within))

-- what all gets keep, those that are listed keep
module _ (plan : Plan) (p : ℕ) (g : Event) (places : List Event) where
  also_far : (anywhere : Bool) (z : Event) → place_in anywhere plan z.proc ≡ place_in anywhere plan g.proc → MayBe anywhere plan false p g.proc → MayBe anywhere plan false p z.proc
  also_far true z there far a = absurd (true≢false a)
  also_far false z there far a = ap (λ n. node_of plan p == n) there ∙ far a

  pub for_readers : (anywhere : Bool) → GetsAreFor anywhere plan → AreListedGets anywhere plan p g places → MayBe anywhere plan false p g.proc → AreForReaders plan p places
  for_readers anywhere all are far k z key is asks =
      let o = are.only k z is in
      all z p key asks o.other o.asked (also_far anywhere z o.there far)
