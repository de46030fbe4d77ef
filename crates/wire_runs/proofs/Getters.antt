-- What gets bring to a node, where it is kept.
use Rattle.std.proofs.Common.{◌≡◌, ℕ, zero, suc, ◌<◌, Bool, true, false, ◌&&◌, nat_eq, nat_le, Option, Some, None, is_some, ◌⊎◌, inl, inr, refl, sym, ap, ◌∙◌, subst, arith, eq-eqb, ne_eqb, eqb-true}
use Rattle.std.specs.Prelude.{slice_get}
use Rattle.std.proofs.lemmas.Option.{same_Some}
use Rattle.std.proofs.lemmas.Bool.{cond-true, cond-false, cond_both, cases_eq, cases_Bool, and_parts, and_from, true≢false}
use Rattle.wire_runs.specs.Plan.{Plan, Kind, Get, kind, kind_at, event_count, process_count, node_of, same_node, admits, Event}
use Rattle.wire_runs.specs.State.{Answer, ExistsOutside, Value, State, IsDone}
use Rattle.wire_runs.specs.Puts.{stored, scope_of}
use Rattle.wire_runs.specs.Sight.{served, greater, greatest, got_with, got, got_on, kept}
use Rattle.wire_runs.specs.Step.{sight_reply}
use Rattle.wire_runs.specs.Races.{GetDelivers}
use Rattle.wire_runs.proofs.Basics.{process_within}

pub greater_from : (a b : Option ℕ) (u : ℕ) → greater a b ≡ Some u → (a ≡ Some u) ⊎ (b ≡ Some u)
greater_from a None u = λ h. inl h
greater_from None (Some b) u = λ h. inr h
greater_from (Some a) (Some b) u = cond_both (nat_le a b) (Some b) (Some a) (λ o. o ≡ Some u → (Some a ≡ Some u) ⊎ (Some b ≡ Some u)) (λ _ h. inr h) (λ _ h. inl h)

pub greater_left : (a b : Option ℕ) → is_some a ≡ true → is_some (greater a b) ≡ true
greater_left a None h = h
greater_left None (Some b) h = refl
greater_left (Some a) (Some b) h = cond_both (nat_le a b) (Some b) (Some a) (λ o. is_some o ≡ true) (λ _. refl) (λ _. refl)

pub greater_right : (a b : Option ℕ) → is_some b ≡ true → is_some (greater a b) ≡ true
greater_right a None h = absurd (true≢false (sym h))
greater_right None (Some b) h = refl
greater_right (Some a) (Some b) h = cond_both (nat_le a b) (Some b) (Some a) (λ o. is_some o ≡ true) (λ _. refl) (λ _. refl)

-- the greatest is one of them
greatest_from : (f : ℕ → Option ℕ) (n u : ℕ) → greatest f n ≡ Some u → (i : ℕ) × (i < n) × (f i ≡ Some u)
greatest_from f zero u h = cc
greatest_from f (suc n) u h = go (greater_from (greatest f n) (f n) u h) (greatest_from f n u)
  where
    go : (greatest f n ≡ Some u) ⊎ (f n ≡ Some u) → (greatest f n ≡ Some u → (i : ℕ) × (i < n) × (f i ≡ Some u)) → (i : ℕ) × (i < suc n) × (f i ≡ Some u)
    go (inl e) ih = let r = ih e in let l = r.1 in (r.0, omega (arith, l), r.2)
    go (inr e) ih = (n, omega arith, e)

greatest_some : (f : ℕ → Option ℕ) (n i : ℕ) → i < n → is_some (f i) ≡ true → is_some (greatest f n) ≡ true
greatest_some f zero i lt h = absurd (omega (arith, lt))
greatest_some f (suc n) i lt h = elim (cases_eq i n) [
  | inl e ↦ greater_right (greatest f n) (f n) (subst (λ k. is_some (f k) ≡ true) e h)
  | inr ne ↦ greater_left (greatest f n) (f n) (greatest_some f n i (omega (arith, lt, ne)) h)
]

-- what t's server shows a get by q of its key once t has done all its events
abbrev pub last_answer : Plan → ℕ → ℕ → ℕ → Answer
last_answer plan t key q = sight_reply t (served plan t (same_node plan t q) (stored plan t key (event_count plan t)))

-- each get of another's key that is done was answered so
abbrev pub Answered : Plan → State → Type 0
Answered plan s = (z : Event) (t key : ℕ) → IsDone s z → kind plan z ≡ Some (Get t key) → (z.proc ≡ t → ⊥) → slice_get (s.replies z.proc) z.at ≡ Some (last_answer plan t key z.proc)

-- a get at the node that was answered with this put
pub record Getter (plan : Plan) (s : State) (t key node u : ℕ) : Type 0 where
  pub get : Event
  pub put : Event
  pub is : kind plan get ≡ Some (Get t key)
  pub there : node_of plan get.proc ≡ node
  pub is_done : IsDone s get
  pub said : slice_get (s.replies get.proc) get.at ≡ Some (Value put)
  pub put_is : put.at ≡ u

got_from : (p key u : ℕ) (o : Option Kind) (a : Option Answer) → got_with p key o a ≡ Some u → (o ≡ Some (Get p key)) × (put : Event) × (a ≡ Some (Value put)) × (put.at ≡ u)
got_from p key u (Some (Get owner k)) (Some (Value put)) =
    cond_both (nat_eq owner p && nat_eq k key) (Some put.at) None
    (λ v. v ≡ Some u → (◌≡◌ {A = Option Kind} (Some (Get owner k)) (Some (Get p key))) × (put' : Event) × (◌≡◌ {A = Option Answer} (Some (Value put)) (Some (Value put'))) × (put'.at ≡ u))
    (λ t h. let b = and_parts _ _ t in (ap (λ v. Some (Get v k)) (eqb-true owner p b.0) ∙ ap (λ v. Some (Get p v)) (eqb-true k key b.1), put, refl, same_Some _ _ h))
    (λ f h. cc)
got_from p key u _ _ = λ h. cc

got_is : (plan : Plan) (s : State) (t key m i : ℕ) (put : Event) → kind_at plan m i ≡ Some (Get t key) → slice_get (s.replies m) i ≡ Some (Value put) → got plan s t key m i ≡ Some put.at
got_is plan s t key m i put e a =
    ap (λ o. got_with t key o (slice_get (s.replies m) i)) e ∙ ap (got_with t key (Some (Get t key))) a ∙ cond-true _ _ _ (and_from _ _ (eq-eqb t t refl) (eq-eqb key key refl))

pub getter : (plan : Plan) (s : State) (t key node u : ℕ) → kept plan s t key node ≡ Some u → (plan.keep ≡ true) × Getter plan s t key node u
getter plan s t key node u =
    cond_both plan.keep _ None (λ o. o ≡ Some u → (plan.keep ≡ true) × Getter plan s t key node u)
    (λ k h.
    let m = greatest_from (got_on plan s t key node) (process_count plan) u h in (
      k,
      cond_both (nat_eq (node_of plan m.0) node) _ None (λ o. o ≡ Some u → Getter plan s t key node u)
          (λ e here.
          let i = greatest_from (got plan s t key m.0) (s.done m.0) u here in
          let g = got_from t key u (kind_at plan m.0 i.0) (slice_get (s.replies m.0) i.0) i.2 in
          record { get = record { proc = m.0; at = i.0 }; put = g.1; is = g.0; there = eqb-true _ _ e; is_done = i.1; said = g.2; put_is = g.3 })
          (λ f none. cc) m.2,
    ))
    (λ f h. cc)

pub kept_some : (plan : Plan) (s : State) (t key node u : ℕ) → plan.keep ≡ true → Getter plan s t key node u → is_some (kept plan s t key node) ≡ true
kept_some plan s t key node u k g =
    ap is_some (cond-true plan.keep (greatest (got_on plan s t key node) (process_count plan)) None k)
    ∙ greatest_some (got_on plan s t key node) (process_count plan) g.get.proc (process_within plan g.get.proc g.get.at _ g.is)
    (ap is_some (cond-true (nat_eq (node_of plan g.get.proc) node) (greatest (got plan s t key g.get.proc) (s.done g.get.proc)) None (eq-eqb _ _ g.there))
    ∙ greatest_some (got plan s t key g.get.proc) (s.done g.get.proc) g.get.at g.is_done (ap is_some (got_is plan s t key g.get.proc g.get.at g.put g.is g.said)))

abbrev put_in : Answer → Event
put_in (Value put) = put
put_in _ = record { proc = 0; at = 0 }

same_value : (a b : Event) → Value a ≡ Value b → a ≡ b
same_value a b e = ap put_in e

pub said_value : (plan : Plan) (t : ℕ) (same : Bool) (o : Option ℕ) (put : Event) → sight_reply t (served plan t same o) ≡ Value put → (o ≡ Some put.at) × (admits (scope_of plan t put.at) same ≡ true)
said_value plan t same None put = λ h. cc
said_value plan t same (Some v) put = elim (cases_Bool (admits (scope_of plan t v) same)) [
  | inl a ↦ (λ h.
      let e : Value (record { proc = t; at = v }) ≡ Value put = sym (ap (sight_reply t) (cond-true _ _ _ a)) ∙ h in
      let at_is : v ≡ put.at = ap (λ (x : Event). x.at) (same_value _ _ e) in
      (ap Some at_is, subst (λ i. admits (scope_of plan t i) same ≡ true) at_is a))
  | inr f ↦ (λ h. let e : ExistsOutside ≡ Value put = sym (ap (sight_reply t) (cond-false _ _ _ f)) ∙ h in cc)
]

-- what was answered to it is what its owner has stored in the end
pub answered_value : (plan : Plan) (s : State) → Answered plan s → (t key node u : ℕ) → (node_of plan t ≡ node → ⊥) → (g : Getter plan s t key node u) →
    (stored plan t key (event_count plan t) ≡ Some u) × (admits (scope_of plan t u) false ≡ true)
answered_value plan s known t key node u away g =
    let other : g.get.proc ≡ t → ⊥ = λ e. away (ap (node_of plan) (sym e) ∙ g.there) in
    let apart : same_node plan t g.get.proc ≡ false = ne_eqb _ _ (λ e. away (e ∙ g.there)) in
    let said : sight_reply t (served plan t false (stored plan t key (event_count plan t))) ≡ Value g.put =
    subst (λ b. sight_reply t (served plan t b (stored plan t key (event_count plan t))) ≡ Value g.put) apart (same_Some _ _ (sym (known g.get t key g.is_done g.is other) ∙ g.said)) in
    let v = said_value plan t false (stored plan t key (event_count plan t)) g.put said in
    (v.0 ∙ ap Some g.put_is, subst (λ i. admits (scope_of plan t i) false ≡ true) g.put_is v.1)

-- a get that is done in two states brought the same in both
pub get_in : (plan : Plan) (t key node : ℕ) → (node_of plan t ≡ node → ⊥) → (a b : State) → Answered plan a → Answered plan b → (u : ℕ)
    (g : Getter plan a t key node u) → IsDone b g.get → Getter plan b t key node u
get_in plan t key node away a b answered_a answered_b u g done_b =
    let other : g.get.proc ≡ t → ⊥ = λ e. away (ap (node_of plan) (sym e) ∙ g.there) in
    record {
      get = g.get;
      put = g.put;
      is = g.is;
      there = g.there;
      is_done = done_b;
      said = answered_b g.get t key done_b g.is other ∙ sym (answered_a g.get t key g.is_done g.is other) ∙ g.said;
      put_is = g.put_is;
    }

-- a get that delivers the key and is done has brought it
pub get_brought : (plan : Plan) (s : State) → Answered plan s → (t key node : ℕ) → (node_of plan t ≡ node → ⊥) → (get : Event) (d : GetDelivers plan t key node get) →
    IsDone s get → Getter plan s t key node d.away.put
get_brought plan s answered t key node apart get d is_done =
    let other : get.proc ≡ t → ⊥ = λ e. apart (ap (node_of plan) (sym e) ∙ d.there) in
    let same : same_node plan t get.proc ≡ false = ne_eqb _ _ (λ e. apart (e ∙ d.there)) in
    record {
      get = get;
      put = record { proc = t; at = d.away.put };
      is = d.away.is;
      there = d.there;
      is_done = is_done;
      said = answered get t key is_done d.away.is other
          ∙ ap Some (ap (λ b. sight_reply t (served plan t b (stored plan t key (event_count plan t)))) same ∙ ap (λ o. sight_reply t (served plan t false o)) d.away.committed
          ∙ ap (sight_reply t) (cond-true _ _ _ d.away.admitted));
      put_is = refl;
    }
