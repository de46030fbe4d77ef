-- Arrivals at one fence, and what follows them.
use Rattle.std.proofs.Common.{◌≡◌, ◌∙◌, ap, refl, sym, subst, ℕ, zero, suc, ◌<◌, List, [], ◌∷◌, Bool, true, ◌==◌, Option, Some, None, ◌⊎◌, inl, inr, arith, eq-eqb, eqb-true}
use Rattle.std.specs.Prelude.{slice_get}
use Rattle.std.proofs.lemmas.Bool.{cases_eq, cases_lt, cond_both, or_cases, or_left, or_right, true≢false}
use Rattle.std.proofs.lemmas.Option.{slice_get_within, same_Some}
use Rattle.wire_runs.specs.Plan.{Plan, Event, Process, Call, CallPut, CallCommit, CallFence, CallGet, CallGetNow, CallPublish, CallLookup, CallLookupWait, CallUnpublish, CallUnpublishAll, CallFixed}
use Rattle.wire_runs.specs.Plan.{Kind, Put, Commit, Arrive, Leave, Publish, Unpublish, UnpublishAll, event_count, kinds_of, process_kinds, kinds, kind_at, kind, node_of}
use Rattle.wire_runs.specs.Puts.{own_with, own, stored_with, stored}
use Rattle.wire_types.specs.declared.Scope.{Scope}
use Rattle.wire_runs.specs.Fences.{arrivals, is_member, is_full, has_node}
use Rattle.wire_runs.specs.Order.{IsArrival, Edge, Follows, Meets, Feeds, Announces, may_come, Live, Before, edge, further}
use Rattle.wire_runs.specs.Names.{is_publish, publishes, writes_name}
use Rattle.wire_runs.specs.Embeddings.{IsNameOf}
use Rattle.wire_runs.proofs.Basics.{arrivals_rise, arrivals_step, stores_commit}
use Rattle.wire_runs.proofs.Due.{live_source, live_may}
use Rattle.wire_runs.proofs.Histories.{joined}

-- the members of the fence at which an event arrives
abbrev members_in : Kind → List ℕ
members_in (Arrive members collect) = members
members_in _ = []

-- the end of a fence stands behind each arrival at it
leave_behind : (calls : List Call) (at : ℕ) (members : List ℕ) (collect : Bool) → slice_get (kinds_of calls) at ≡ Some (Arrive members collect) → slice_get (kinds_of calls) (suc at) ≡ Some (Leave members)
leave_behind [] at members collect is = let lt = slice_get_within [] at _ is in absurd (omega (arith, lt))
leave_behind (CallFence others says ∷ calls) zero members collect is = ap (λ e. Some (Leave (members_in e))) (same_Some _ _ is)
leave_behind (CallFence others says ∷ calls) (suc zero) members collect is = cc
leave_behind (CallFence others says ∷ calls) (suc (suc at)) members collect is = leave_behind calls at members collect is
leave_behind (CallPut key scope ∷ calls) zero members collect is = cc
leave_behind (CallPut key scope ∷ calls) (suc at) members collect is = leave_behind calls at members collect is
leave_behind (CallCommit ∷ calls) zero members collect is = cc
leave_behind (CallCommit ∷ calls) (suc at) members collect is = leave_behind calls at members collect is
leave_behind (CallGet owner key ∷ calls) zero members collect is = cc
leave_behind (CallGet owner key ∷ calls) (suc at) members collect is = leave_behind calls at members collect is
leave_behind (CallGetNow owner key ∷ calls) zero members collect is = cc
leave_behind (CallGetNow owner key ∷ calls) (suc at) members collect is = leave_behind calls at members collect is
leave_behind (CallPublish name ∷ calls) zero members collect is = cc
leave_behind (CallPublish name ∷ calls) (suc at) members collect is = leave_behind calls at members collect is
leave_behind (CallLookup name ∷ calls) zero members collect is = cc
leave_behind (CallLookup name ∷ calls) (suc at) members collect is = leave_behind calls at members collect is
leave_behind (CallLookupWait name ∷ calls) zero members collect is = cc
leave_behind (CallLookupWait name ∷ calls) (suc at) members collect is = leave_behind calls at members collect is
leave_behind (CallUnpublish name ∷ calls) zero members collect is = cc
leave_behind (CallUnpublish name ∷ calls) (suc at) members collect is = leave_behind calls at members collect is
leave_behind (CallUnpublishAll ∷ calls) zero members collect is = cc
leave_behind (CallUnpublishAll ∷ calls) (suc at) members collect is = leave_behind calls at members collect is
leave_behind (CallFixed reply ∷ calls) zero members collect is = cc
leave_behind (CallFixed reply ∷ calls) (suc at) members collect is = leave_behind calls at members collect is

behind_in : (process : Option Process) (at : ℕ) (members : List ℕ) (collect : Bool) → slice_get (process_kinds process) at ≡ Some (Arrive members collect) →
    slice_get (process_kinds process) (suc at) ≡ Some (Leave members)
behind_in None at members collect is = let lt = slice_get_within [] at _ is in absurd (omega (arith, lt))
behind_in (Some process) at members collect is = leave_behind process.calls at members collect is

pub leave_next : (plan : Plan) (p at : ℕ) (members : List ℕ) (collect : Bool) → kind_at plan p at ≡ Some (Arrive members collect) → kind_at plan p (suc at) ≡ Some (Leave members)
unfolding kind_at kinds
leave_next plan p at members collect is = behind_in (slice_get plan.processes p) at members collect is

-- a process arrives at a fence once
pub one_arrival : (plan : Plan) (members : List ℕ) (j : ℕ) (y z : Event) → IsArrival plan members j y → IsArrival plan members j z → y.proc ≡ z.proc → y ≡ z
one_arrival plan members j y z a b same = elim (cases_eq y.at z.at) [
  | inl e ↦ (λ t. record { proc = same t; at = e t })
  | inr ne ↦ absurd (elim (cases_lt y.at z.at) [
    | inl lt ↦ not_twice y.proc y.at z.at a.collect b.collect a.is (subst (λ p. kind_at plan p z.at ≡ Some (Arrive members b.collect)) (sym same) b.is) lt
        (a.nth ∙ sym (ap (λ p. arrivals plan p members (suc z.at)) same ∙ b.nth))
    | inr ge ↦ not_twice z.proc z.at y.at b.collect a.collect b.is (subst (λ p. kind_at plan p y.at ≡ Some (Arrive members a.collect)) same a.is) (omega (arith, ge, ne))
        (b.nth ∙ sym (ap (λ p. arrivals plan p members (suc y.at)) (sym same) ∙ a.nth))
  ])
]
  where
    not_twice : (p m n : ℕ) (c d : Bool) → kind_at plan p m ≡ Some (Arrive members c) → kind_at plan p n ≡ Some (Arrive members d) → m < n →
        arrivals plan p members (suc m) ≡ arrivals plan p members (suc n) → ⊥
    not_twice p m n c d ism isn lt nth =
        let step = arrivals_step plan p members d n isn in
        let rise = arrivals_rise plan p members (suc m) n (omega (arith, lt)) in
        omega (arith, nth, step, rise)

-- an edge from an arrival leads to an end of its fence
edge_leaves : (plan : Plan) (members : List ℕ) (j : ℕ) (x y : Event) → IsArrival plan members j x → Edge plan x y → (kind plan y ≡ Some (Leave members)) × (arrivals plan y.proc members y.at ≡ j)
edge_leaves plan members j x y a (Follows same next) = (
  subst (λ v. kind plan v ≡ Some (Leave members)) (λ t. record { proc = same t; at = next t }) (leave_next plan x.proc x.at members a.collect a.is),
  subst (λ (v : Event). arrivals plan v.proc members v.at ≡ j) (λ t. record { proc = same t; at = next t }) a.nth,
)
edge_leaves plan members j x y a (Meets others is b) =
    let same : others ≡ members = ap members_in (same_Some _ _ (sym b.is ∙ a.is)) in
    let counts : arrivals plan y.proc others y.at ≡ j = sym b.nth ∙ ap (λ ms. arrivals plan x.proc ms (suc x.at)) same ∙ a.nth in
    (subst (λ ms. kind plan y ≡ Some (Leave ms)) same is, subst (λ ms. arrivals plan y.proc ms y.at ≡ j) same counts)
edge_leaves plan members j x y a (Feeds key is other once stores) = absurd (let i = a.is in let c = stores_commit plan x key stores in cc)
edge_leaves plan members j x y a (Announces name is once) = absurd (let i = a.is in let c = once.is in cc)

-- a live end of the fence that is the event y or before it
pub record IsLeft (plan : Plan) (members : List ℕ) (j : ℕ) (y : Event) : Type 0 where
  pub end : Event
  pub is : kind plan end ≡ Some (Leave members)
  pub nth : arrivals plan end.proc members end.at ≡ j
  pub is_live : Live plan end
  pub leads : (end ≡ y) ⊎ Before plan end y

leads_on : {plan : Plan} {x y z : Event} → (x ≡ y) ⊎ Before plan x y → Edge plan y z → Live plan z → Before plan x z
leads_on {plan = plan} {z = z} (inl s) e m = subst (λ v. Before plan v z) (sym s) (edge (live_source m e) e m)
leads_on (inr c) e m = further c e m

-- a chain from an arrival goes next to an end of its fence
pub left_first : {plan : Plan} (members : List ℕ) (j : ℕ) {x y : Event} → IsArrival plan members j x → Before plan x y → IsLeft plan members j y
left_first members j a (edge l e m) = let r = edge_leaves _ members j _ _ a e in record { end = _; is = r.0; nth = r.1; is_live = m; leads = inl refl }
left_first members j a (further b e m) =
    let r = left_first members j a b in
    record { end = r.end; is = r.is; nth = r.nth; is_live = r.is_live; leads = inr (leads_on r.leads e m) }

module _ (plan : Plan) (members : List ℕ) (j : ℕ) (y : Event) (left : IsLeft plan members j y) where
  -- then the fence is full, and all arrivals at it are before y
  pub left_full : is_full plan members j ≡ true
  left_full =
      let may = subst (λ o. may_come plan left.end o ≡ true) left.is (live_may left.is_live) in
      subst (λ i. is_full plan members i ≡ true) left.nth may

  pub left_arrived : (z : Event) → IsArrival plan members j z → Before plan z y
  left_arrived z a =
      let e : Edge plan z left.end = Meets members left.is (subst (λ i. IsArrival plan members i z) (sym left.nth) a) in
      let b = edge (live_source left.is_live e) e left.is_live in
      elim left.leads [ inl s ↦ subst (λ v. Before plan z v) s b | inr c ↦ joined b c ]

-- what can't be denied of any arrival at a fence, can't be denied of all at once
pub all_undenied : (plan : Plan) (members : List ℕ) (j : ℕ) (holds : Event → Type 0) → ((z : Event) → IsArrival plan members j z → (holds z → ⊥) → ⊥) → (xs : List ℕ) →
    (((z : Event) → IsArrival plan members j z → is_member xs z.proc ≡ true → holds z) → ⊥) → ⊥
all_undenied plan members j holds each [] h = h (λ z a i. absurd (true≢false (sym i)))
all_undenied plan members j holds each (x ∷ xs) h = all_undenied plan members j holds each xs (λ rest.
    let none : (z : Event) → IsArrival plan members j z → (x ≡ z.proc) → ⊥ = λ y b s. each y b (λ hy. h (λ z a i. elim (or_cases _ _ i) [
      | inl t ↦ subst holds (one_arrival plan members j y z b a (sym s ∙ eqb-true x z.proc t)) hy
      | inr r ↦ rest z a r
    ])) in
    h (λ z a i. elim (or_cases _ _ i) [ inl t ↦ absurd (none z a (eqb-true x z.proc t)) | inr r ↦ rest z a r ]))

-- a member's node is one of the set's, and each of those is a member's
pub node_among : (plan : Plan) (members : List ℕ) (m node : ℕ) → is_member members m ≡ true → node_of plan m ≡ node → has_node plan members node ≡ true
node_among plan [] m node i there = absurd (true≢false (sym i))
node_among plan (x ∷ xs) m node i there = elim (or_cases _ _ i) [
  | inl t ↦ or_left _ _ (eq-eqb _ _ (ap (node_of plan) (eqb-true x m t) ∙ there))
  | inr r ↦ or_right _ _ (node_among plan xs m node r there)
]

pub mate_on : (plan : Plan) (members : List ℕ) (node : ℕ) → has_node plan members node ≡ true → (m : ℕ) × (is_member members m ≡ true) × (node_of plan m ≡ node)
mate_on plan [] node h = absurd (true≢false (sym h))
mate_on plan (x ∷ xs) node h = elim (or_cases _ _ h) [
  | inl t ↦ (x, or_left _ _ (eq-eqb x x refl), eqb-true _ _ t)
  | inr r ↦ (let w = mate_on plan xs node r in (w.0, or_right _ _ w.1, w.2))
]

-- what is put or stored is the number of a put
own_put_with : (key n : ℕ) (before : Option ℕ) (o : Option Kind) (i : ℕ) → own_with key n before o ≡ Some i → (before ≡ Some i) ⊎ ((n ≡ i) × (scope : Scope) × (o ≡ Some (Put key scope)))
own_put_with key n before (Some (Put k scope)) i =
    cond_both (k == key) (Some n) before (λ v. v ≡ Some i → (before ≡ Some i) ⊎ ((n ≡ i) × (c : Scope) × (◌≡◌ {A = Option Kind} (Some (Put k scope)) (Some (Put key c)))))
    (λ t h. inr (same_Some _ _ h, scope, ap (λ x. Some (Put x scope)) (eqb-true k key t)))
    (λ f h. inl h)
own_put_with key n before _ i = λ h. inl h

pub own_is_put : (plan : Plan) (p key n i : ℕ) → own plan p key n ≡ Some i → (scope : Scope) × (kind_at plan p i ≡ Some (Put key scope))
own_is_put plan p key zero i h = cc
own_is_put plan p key (suc n) i h = go (own_put_with key n (own plan p key n) (kind_at plan p n) i h) (own_is_put plan p key n i)
  where
    go : (own plan p key n ≡ Some i) ⊎ ((n ≡ i) × (scope : Scope) × (kind_at plan p n ≡ Some (Put key scope))) → (own plan p key n ≡ Some i → (scope : Scope) × (kind_at plan p i ≡ Some (Put key scope))) →
        (scope : Scope) × (kind_at plan p i ≡ Some (Put key scope))
    go (inl e) ih = ih e
    go (inr r) ih = (r.1, subst (λ k. kind_at plan p k ≡ Some (Put key r.1)) r.0 r.2)

pub stored_is_put : (plan : Plan) (p key n i : ℕ) → stored plan p key n ≡ Some i → (scope : Scope) × (kind_at plan p i ≡ Some (Put key scope))
stored_is_put plan p key zero i h = cc
stored_is_put plan p key (suc n) i h = go (kind_at plan p n) h (stored_is_put plan p key n i)
  where
    go : (o : Option Kind) → stored_with (own plan p key n) (stored plan p key n) o ≡ Some i → (stored plan p key n ≡ Some i → (scope : Scope) × (kind_at plan p i ≡ Some (Put key scope))) →
        (scope : Scope) × (kind_at plan p i ≡ Some (Put key scope))
    go (Some Commit) h ih = own_is_put plan p key n i h
    go _ h ih = ih h

-- a name that a process publishes is the name of an event, and so is one that an event can change
named_by : (plan : Plan) (name : ℕ) (x : Event) (o : Option Kind) → kind plan x ≡ o → is_publish name o ≡ true → IsNameOf plan name
named_by plan name x (Some (Publish n)) is h = (x, Publish n, is, ap Some (eqb-true n name h))
named_by plan name x _ is h = cc

pub published_name : (plan : Plan) (p name n : ℕ) → publishes plan p name n ≡ true → IsNameOf plan name
published_name plan p name zero h = cc
published_name plan p name (suc n) h = elim (or_cases _ _ h) [
  | inl here ↦ named_by plan name (record { proc = p; at = n }) (kind_at plan p n) refl here
  | inr before ↦ published_name plan p name n before
]

written_by : (plan : Plan) (name : ℕ) (x : Event) (o : Option Kind) → kind plan x ≡ o → writes_name plan name x o ≡ true → IsNameOf plan name
written_by plan name x (Some (Publish n)) is h = (x, Publish n, is, ap Some (eqb-true n name h))
written_by plan name x (Some (Unpublish n)) is h = (x, Unpublish n, is, ap Some (eqb-true n name h))
written_by plan name x (Some UnpublishAll) is h = published_name plan x.proc name (event_count plan x.proc) h
written_by plan name x _ is h = cc

pub written_name : (plan : Plan) (name : ℕ) (x : Event) → writes_name plan name x (kind plan x) ≡ true → IsNameOf plan name
written_name plan name x h = written_by plan name x (kind plan x) refl h
