-- What a get-now finds, told by the order of calls alone: so it can be handed on to a plan of which no run is known.
use Rattle.std.proofs.Common.{◌≡◌, ℕ, suc, ◌≤◌, true, false, Option, Some, None, is_some, inl, inr, refl, sym, ap, ◌∙◌, arith, eq-eqb, ne_eqb}
use Rattle.std.specs.Prelude.{if◌then◌else◌}
use Rattle.std.proofs.lemmas.Bool.{cond-true, cond-false, cases_eq, cases_Bool, true≢false}
use Rattle.std.proofs.lemmas.Option.{none-some, same_Some}
use Rattle.wire_types.specs.declared.Status.{Status}
use Rattle.wire_types.specs.declared.Status.TheVariants as status
use Rattle.wire_runs.specs.Plan.{Plan, Event, GetNow, kind, event_count, process_count, node_of, same_node, admits}
use Rattle.wire_runs.specs.State.{Answer, State, IsDone}
use Rattle.wire_runs.specs.Puts.{own, stored, scope_of}
use Rattle.wire_runs.specs.Sight.{Outside, Shown, held, served, brought, get_now_sees}
use Rattle.wire_runs.specs.Step.{may_do, sight_reply, reply}
use Rattle.wire_runs.specs.Order.{Stores, Live, Before}
use Rattle.wire_runs.specs.Races.{Delivery, ByFence, ByGet, IsOf, FenceDelivers, GetDelivers, Delivers, ComesSurely, IsSettled}
use Rattle.wire_runs.specs.Fate.{Fate, Waits, Says, HasFate, dead, told, IsPast}
use Rattle.wire_runs.proofs.Basics.{event_within, process_within, stored_own, stored_stays, stores_commit}
use Rattle.wire_runs.proofs.Due.{ClosedCut, chain_in}
use Rattle.wire_runs.proofs.Puts.{stored_fixed, put_once, first_stores}
use Rattle.wire_runs.proofs.Getters.{Answered}
use Rattle.wire_runs.proofs.Deliveries.{none_delivers}
use Rattle.wire_runs.proofs.Came.{came, came_is, came_by, came_of}
use Rattle.wire_runs.proofs.Fates.{get_fate, past_closed, past_known, past_not_yet}
use Rattle.wire_runs.proofs.Histories.{before_live}
use Rattle.wire_pattern_laws.specs.Finds.{status_of, found_status, shown_status, event_in, FindsOwn, FindsNear, near_nothing, near_value, FindsFar, far_nothing, far_value, Finds, from_own, from_near, from_far}

-- a state that has all that is before the get, and not the get
pub record Poised (plan : Plan) (s : State) (get : Event) : Type 0 where
  pub closed : ClosedCut plan s.done
  pub answered : Answered plan s
  pub known : (z : Event) → Before plan z get → IsDone s z
  pub not_yet : s.done get.proc ≤ get.at
  pub is_live : Live plan get

-- what is done the get isn't before
never_after : (plan : Plan) (s : State) (get : Event) → Poised plan s get → (z : Event) → IsDone s z → Before plan get z → ⊥
never_after plan s get at z d b = let e = chain_in at.closed b d in let n = at.not_yet in omega (arith, e, n)

-- a key that a delivery brings is stored in the end
pub brought_is_stored : (plan : Plan) (owner key node : ℕ) (d : Delivery) → Delivers plan owner key node d → is_some (stored plan owner key (event_count plan owner)) ≡ true
brought_is_stored plan owner key node (ByFence members j) delivers =
    let d : FenceDelivers plan owner key node members j = delivers.brings_it in
    let within = event_within plan owner d.away.at _ d.away.arrival.is in
    stored_stays plan owner key d.away.at (event_count plan owner) (omega (arith, within)) (ap is_some d.away.committed)
brought_is_stored plan owner key node (ByGet get) delivers =
    let d : GetDelivers plan owner key node get = delivers.brings_it in
    ap is_some d.away.committed

-- of an owner that isn't a process nothing is found
pub absent : (plan : Plan) (get : Event) (owner key : ℕ) (found : Status) → (get.proc ≡ owner → ⊥) → process_count plan ≤ owner → found ≡ status.NotFound → Finds plan get owner key found
absent plan get owner key found ne none is_found = elim (cases_Bool (same_node plan owner get.proc)) [
  | inl near ↦ from_near ne near (near_nothing (λ i stores b. stores_nothing i stores) is_found)
  | inr away ↦ from_far ne away (far_nothing (λ sure. (
      let first = first_stores plan owner key (event_count plan owner) (brought_is_stored plan owner key (node_of plan get.proc) sure.delivery sure.delivers) in
      stores_nothing first.0 first.2)) is_found)
]
  where
    stores_nothing : (i : ℕ) → Stores plan (event_in owner i) key → ⊥
    stores_nothing i stores = let w = process_within plan owner i _ (stores_commit plan (event_in owner i) key stores) in omega (arith, none, w)

module _ (plan : Plan) (settled : IsSettled plan) (get : Event) (owner key : ℕ) (is : kind plan get ≡ Some (GetNow owner key)) (is_live : Live plan get) where
  -- where the get is before none of a delivery's events, it isn't denied that one comes surely
  pub undenied : same_node plan owner get.proc ≡ false → (ComesSurely plan owner key (node_of plan get.proc) get → ⊥) → (d : Delivery) → Delivers plan owner key (node_of plan get.proc) d →
      ((z : Event) → IsOf plan d z → Before plan get z → ⊥) → ⊥
  undenied away not_sure d delivers none =
      none_delivers plan settled get owner key is is_live away
      (put_once plan settled owner key (event_count plan owner) (stored_own plan owner key (event_count plan owner) (brought_is_stored plan owner key (node_of plan get.proc) d delivers)))
      not_sure d delivers none

  -- in a settled plan it finds one thing
  one_own : (a b : Status) → FindsOwn plan get owner key a → FindsOwn plan get owner key b → a ≡ b
  one_own a b f g = f ∙ sym g

  race_near : (get.proc ≡ owner → ⊥) → same_node plan owner get.proc ≡ true → ((i : ℕ) → Stores plan (event_in owner i) key → Before plan (event_in owner i) get → ⊥) →
      (i : ℕ) → Stores plan (event_in owner i) key → Live plan (event_in owner i) → (Before plan get (event_in owner i) → ⊥) → (put : ℕ) → stored plan owner key (event_count plan owner) ≡ Some put → ⊥
  race_near ne near none i stores l not_before put stored_is = settled.no_node_race (event_in owner i) get key (record {
    near = record {
      is = is;
      another = ne;
      once = put_once plan settled owner key (event_count plan owner) (stored_own plan owner key (event_count plan owner) (ap is_some stored_is));
      stores = stores;
      unordered = record { live_x = l; live_y = is_live; not_before = none i stores; not_after = not_before };
    };
    node = near;
  })

  one_near : (get.proc ≡ owner → ⊥) → same_node plan owner get.proc ≡ true → (a b : Status) → FindsNear plan get owner key a → FindsNear plan get owner key b → a ≡ b
  one_near ne near a b (near_nothing n ea) (near_nothing m eb) = ea ∙ sym eb
  one_near ne near a b (near_nothing n ea) (near_value i put st l nb is_put eb) = absurd (race_near ne near n i st l nb put is_put)
  one_near ne near a b (near_value i put st l nb is_put ea) (near_nothing m eb) = absurd (race_near ne near m i st l nb put is_put)
  one_near ne near a b (near_value i put st l nb is_put ea) (near_value i' put' st' l' nb' is_put' eb) =
      ea ∙ ap (λ v. shown_status (admits (scope_of plan owner v) true)) (same_Some _ _ (sym is_put ∙ is_put')) ∙ sym eb

  one_far : same_node plan owner get.proc ≡ false → (a b : Status) → FindsFar plan get owner key a → FindsFar plan get owner key b → a ≡ b
  one_far away a b (far_nothing n ea) (far_nothing m eb) = ea ∙ sym eb
  one_far away a b (far_nothing n ea) (far_value d w nb eb) = absurd (undenied away n d w nb)
  one_far away a b (far_value d w nb ea) (far_nothing m eb) = absurd (undenied away m d w nb)
  one_far away a b (far_value d w nb ea) (far_value d' w' nb' eb) = ea ∙ sym eb

  pub one_finding : (a b : Status) → Finds plan get owner key a → Finds plan get owner key b → a ≡ b
  one_finding a b (from_own s f) (from_own t g) = one_own a b f g
  one_finding a b (from_own s f) (from_near ne near g) = absurd (ne s)
  one_finding a b (from_own s f) (from_far ne away g) = absurd (ne s)
  one_finding a b (from_near ne near f) (from_own t g) = absurd (ne t)
  one_finding a b (from_near ne near f) (from_near ne' near' g) = one_near ne near a b f g
  one_finding a b (from_near ne near f) (from_far ne' away g) = absurd (true≢false (sym near ∙ away))
  one_finding a b (from_far ne away f) (from_own t g) = absurd (ne t)
  one_finding a b (from_far ne away f) (from_near ne' near g) = absurd (true≢false (sym near ∙ away))
  one_finding a b (from_far ne away f) (from_far ne' away' g) = one_far away a b f g

-- what it sees in a state that has all that is before it
module _ (plan : Plan) (settled : IsSettled plan) (s : State) (get : Event) (owner key : ℕ) (at : Poised plan s get) where
  pub record Sees : Type 0 where
    pub found : Status
    pub finds : Finds plan get owner key found
    pub shows : status_of (sight_reply owner (get_now_sees plan s get.proc get.at owner key)) ≡ found

  shows_own : (e : get.proc ≡ owner) → (o : Option ℕ) → own plan owner key get.at ≡ o → Sees
  shows_own e None is = record {
    found = status.NotFound;
    finds = from_own e (sym (ap found_status (ap is_some is)));
    shows = ap (λ v. status_of (sight_reply owner v)) (cond-true _ _ _ (eq-eqb get.proc owner e) ∙ ap held is);
  }
  shows_own e (Some put) is = record {
    found = status.Success;
    finds = from_own e (sym (ap found_status (ap is_some is)));
    shows = ap (λ v. status_of (sight_reply owner v)) (cond-true _ _ _ (eq-eqb get.proc owner e) ∙ ap held is);
  }

  served_status : (put : ℕ) → status_of (sight_reply owner (served plan owner true (Some put))) ≡ shown_status (admits (scope_of plan owner put) true)
  served_status put = elim (cases_Bool (admits (scope_of plan owner put) true)) [
    | inl t ↦ ap (λ v. status_of (sight_reply owner v)) (cond-true _ (Shown put) Outside t) ∙ sym (ap shown_status t)
    | inr f ↦ ap (λ v. status_of (sight_reply owner v)) (cond-false _ (Shown put) Outside f) ∙ sym (ap shown_status f)
  ]

  shows_near : (get.proc ≡ owner → ⊥) → same_node plan owner get.proc ≡ true → (o : Option ℕ) → stored plan owner key (s.done owner) ≡ o → Sees
  shows_near ne near None is = record {
    found = status.NotFound;
    finds = from_near ne near (near_nothing (λ i stores b.
        true≢false (sym (stored_stays plan owner key (suc i) (s.done owner) (at.known (event_in owner i) b) stores.something_after) ∙ ap is_some is)) refl);
    shows = ap (λ v. status_of (sight_reply owner v)) (cond-false _ _ _ (ne_eqb get.proc owner ne) ∙ cond-true _ _ _ near ∙ ap (served plan owner true) is);
  }
  shows_near ne near (Some put) is =
      let first = first_stores plan owner key (s.done owner) (ap is_some is) in
      record {
        found = shown_status (admits (scope_of plan owner put) true);
        finds = from_near ne near (near_value first.0 put first.2 (at.closed.all_live (event_in owner first.0) first.1) (never_after plan s get at (event_in owner first.0) first.1)
            (stored_fixed plan settled owner key (s.done owner) (event_count plan owner) (at.closed.within owner) (ap is_some is) ∙ is) refl);
        shows = ap (λ v. status_of (sight_reply owner v)) (cond-false _ _ _ (ne_eqb get.proc owner ne) ∙ cond-true _ _ _ near ∙ ap (served plan owner true) is) ∙ served_status put;
      }

  shows_far : (get.proc ≡ owner → ⊥) → same_node plan owner get.proc ≡ false → (o : Option ℕ) → brought plan s owner key (node_of plan get.proc) ≡ o → Sees
  shows_far ne away None is = record {
    found = status.NotFound;
    finds = from_far ne away (far_nothing (λ sure.
        let c = came_of plan s at.answered owner key (node_of plan get.proc) apart sure.delivery sure.delivers (λ z a. at.known z (sure.all_before z a)) in
        none-some c.0 (sym is ∙ came_is plan settled s at.answered owner key (node_of plan get.proc) apart c.0 c.1)) refl);
    shows = ap (λ v. status_of (sight_reply owner v)) (cond-false _ _ _ (ne_eqb get.proc owner ne) ∙ cond-false _ _ _ away ∙ ap held is);
  }
    where
      apart : node_of plan owner ≡ node_of plan get.proc → ⊥
      apart e = true≢false (sym (eq-eqb _ _ e) ∙ away)
  shows_far ne away (Some put) is =
      let w = came_by plan s at.closed at.answered owner key (node_of plan get.proc) put apart (came plan s owner key (node_of plan get.proc) put is) in
      record {
        found = status.Success;
        finds = from_far ne away (far_value w.0 w.1 (λ z a. never_after plan s get at z (w.2 z a)) refl);
        shows = ap (λ v. status_of (sight_reply owner v)) (cond-false _ _ _ (ne_eqb get.proc owner ne) ∙ cond-false _ _ _ away ∙ ap held is);
      }
    where
      apart : node_of plan owner ≡ node_of plan get.proc → ⊥
      apart e = true≢false (sym (eq-eqb _ _ e) ∙ away)

  pub sees : Sees
  sees = elim (cases_eq get.proc owner) [
    | inl e ↦ shows_own e (own plan owner key get.at) refl
    | inr ne ↦ elim (cases_Bool (same_node plan owner get.proc)) [
      | inl near ↦ shows_near ne near (stored plan owner key (s.done owner)) refl
      | inr away ↦ shows_far ne away (brought plan s owner key (node_of plan get.proc)) refl
    ]
  ]

-- so the fate of a live get-now has the status of what it finds
past_answered : (plan : Plan) → IsSettled plan → (y : Event) (fate_of : Event → Fate) → ((z : Event) → Before plan z y → HasFate plan z (fate_of z)) → (past : State) → IsPast plan y fate_of past →
    Answered plan past
past_answered plan settled y fate_of all past is_past z t key d is other =
    let b = (is_past.cut z).0 d in
    is_past.replies z _ b (get_fate plan settled z (fate_of z) (before_live b) t key is other (all z b))

past_poised : (plan : Plan) → IsSettled plan → (get : Event) → Live plan get → (fate_of : Event → Fate) → ((z : Event) → Before plan z get → HasFate plan z (fate_of z)) → (past : State) →
    IsPast plan get fate_of past → Poised plan past get
past_poised plan settled get l fate_of all past is_past = record {
  closed = past_closed plan settled get l fate_of past is_past;
  answered = past_answered plan settled get fate_of all past is_past;
  known = past_known plan settled get l fate_of past is_past;
  not_yet = past_not_yet plan settled get l fate_of past is_past;
  is_live = l;
}

abbrev pub SaysStatus : Fate → Status → Type 0
SaysStatus fate found = (a : Answer) × (fate ≡ Says a) × (status_of a ≡ found)

pub fate_finds : (plan : Plan) → IsSettled plan → (get : Event) (owner key : ℕ) → kind plan get ≡ Some (GetNow owner key) → Live plan get → (found : Status) → Finds plan get owner key found → (fate : Fate) → HasFate plan get fate →
    SaysStatus fate found
fate_finds plan settled get owner key is l found finds fate (dead not_live e) = absurd (not_live l)
fate_finds plan settled get owner key is l found finds fate (told m fate_of all past is_past e) =
    let w = sees plan settled past get owner key (past_poised plan settled get m fate_of all past is_past) in (
      sight_reply owner (get_now_sees plan past get.proc get.at owner key),
      e ∙ ap (λ o. if may_do plan past get o then Says (reply plan past get o) else Waits) is,
      w.shows ∙ one_finding plan settled get owner key is l w.found found w.finds finds,
    )

-- with marks a live one finds something
pub fate_found : (plan : Plan) → IsSettled plan → (get : Event) (owner key : ℕ) → Live plan get → (fate : Fate) → HasFate plan get fate → (found : Status) × Finds plan get owner key found
fate_found plan settled get owner key l fate (dead not_live e) = absurd (not_live l)
fate_found plan settled get owner key l fate (told m fate_of all past is_past e) =
    let w = sees plan settled past get owner key (past_poised plan settled get m fate_of all past is_past) in
    (w.found, w.finds)
