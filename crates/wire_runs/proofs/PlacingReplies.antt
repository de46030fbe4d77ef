-- Which calls reply the same on every placing.
use Rattle.std.proofs.Common.{◌≡◌, ℕ, suc, ◌<◌, ◌≤◌, List, [], ◌∷◌, Bool, true, false, cond, Option, Some, None, is_some, inl, inr, ⊎_elim, refl, sym, ap, ◌∙◌, subst, arith, eq-eqb, ne_eqb}
use Rattle.std.specs.Prelude.{slice_get, ◌↔◌}
use Rattle.std.proofs.lemmas.Option.{same_Some, slice_get_past}
use Rattle.std.proofs.lemmas.Bool.{cond-true, cond-false, cases_lt, cases_Bool, true≢false}
use Rattle.wire_types.specs.declared.Scope.{Scope}
use Rattle.wire_types.specs.declared.Scope.TheVariants.{Local, Remote, Global}
use Rattle.wire_runs.specs.Plan.{Plan, Get, GetNow, kind, event_count, process_count, node_of, same_node, admits, Event}
use Rattle.wire_runs.specs.State.{Answer, Value, NotFound, ExistsOutside, State, start, next_event, IsDone}
use Rattle.wire_runs.specs.Puts.{stored, scope_of}
use Rattle.wire_runs.specs.Sight.{held, served, brought, get_now_sees}
use Rattle.wire_runs.specs.Step.{is_enabled, sight_reply, reply, step, IsInterleaving, run_from, run}
use Rattle.wire_runs.specs.PlainRun.{plain_run}
use Rattle.wire_runs.specs.Order.{Stores, Edge, Feeds, Live, Before}
use Rattle.wire_runs.specs.Races.{Delivery, ByFence, ByGet, IsOf, Delivers, FenceDelivers, GetDelivers, IsSettled}
use Rattle.wire_runs.specs.Laws.{plain_end}
use Rattle.wire_runs.specs.Placings.{IsPlacing, paired, Carries, HasSurely, IsSettledAnywhere}
use Rattle.wire_runs.specs.PlacingLaws.{tells_places, plain_reply, RepliesAlike, RepliesAnywhere}
use Rattle.wire_runs.proofs.Basics.{process_within, stored_own, stored_stays, stores_commit}
use Rattle.wire_runs.proofs.Due.{closed_cut, chain_in, done_was, due}
use Rattle.wire_runs.proofs.Puts.{stored_fixed, put_once, first_stores}
use Rattle.wire_runs.proofs.Getters.{answered_value}
use Rattle.wire_runs.proofs.Came.{Came, by_fence, by_get, came, came_value, came_is, came_by, came_of}
use Rattle.wire_runs.proofs.Known.{Known, known_start, known_step, reply_kept, reply_now, reachable_known}
use Rattle.wire_runs.proofs.PlainRun.{plain_runs}
use Rattle.wire_runs.proofs.PlacingKeeps.{turned, placing_keeps, kind_kept, stored_same, scope_same, counts, surely_kept}
use Rattle.wire_runs.proofs.FenceChains.{reader_takes_no_part}
use Rattle.wire_runs.proofs.Anywhere.{placing_is, pair_node, first_of_pair, second_of_pair, of_pair, to_node, to_process, settled_there}
use Rattle.wire_runs.proofs.PlacingRuns.{run_alike, done_alike}

-- the state in which a process has come to an event that is done later
pub record CameTo (plan : Plan) (s : State) (x : Event) : Type 0 where
  pub then_ : State
  pub known : Known plan then_
  pub there : then_.done x.proc ≡ x.at
  pub enabled : is_enabled plan then_ x.proc ≡ true
  pub said : slice_get (s.replies x.proc) x.at ≡ Some (reply plan then_ x (kind plan x))

module _ (plan : Plan) (settled : IsSettled plan) where
  came_to_step : (s : State) (p : ℕ) → Known plan s → is_enabled plan s p ≡ true → ((x : Event) → IsDone s x → CameTo plan s x) → (x : Event) → IsDone (step plan s p) x → CameTo plan (step plan s p) x
  came_to_step s p k h before x d = elim (done_was plan s p x d) [
    | inl was ↦
        (let b = before x was in record { then_ = b.then_; known = b.known; there = b.there; enabled = b.enabled; said = reply_kept plan s p x _ b.said })
    | inr e ↦ subst (CameTo plan (step plan s p)) (sym e) (record { then_ = s; known = k; there = refl; enabled = h; said = reply_now plan s p (k.lengths p) })
  ]

  pub came_to_run : (w : List ℕ) (s : State) → Known plan s → IsInterleaving plan s w → ((x : Event) → IsDone s x → CameTo plan s x) → (x : Event) → IsDone (run_from plan s w) x → CameTo plan (run_from plan s w) x
  came_to_run [] s k h before x d = before x d
  came_to_run (p ∷ w) s k h before x d = came_to_run w (step plan s p) (known_step plan settled s p k h.0) h.1 (came_to_step s p k h.0 before) x d

  came_to : (x : Event) → IsDone (plain_end plan) x → CameTo plan (plain_end plan) x
  came_to x d = came_to_run (plain_run plan) start (known_start plan) (plain_runs plan).is_run (λ z none. absurd (omega (arith, none))) x d

  end_known : Known plan (plain_end plan)
  end_known = reachable_known plan settled (plain_end plan) (plain_run plan, (plain_runs plan).is_run, refl)

  -- where nothing is stored, nothing has come
  none_came : (s : State) → Known plan s → (t key node : ℕ) → (node_of plan t ≡ node → ⊥) → stored plan t key (s.done t) ≡ None → (d : Delivery) → Delivers plan t key node d →
      ((z : Event) → IsOf plan d z → IsDone s z) → ⊥
  none_came s k t key node apart none (ByFence members j) delivers done =
      let d : FenceDelivers plan t key node members j = delivers.brings_it in
      let lt : d.away.at < s.done t = done _ d.away.arrival in
      true≢false (sym (stored_stays plan t key d.away.at (s.done t) (omega (arith, lt)) (ap is_some d.away.committed)) ∙ ap is_some none)
  none_came s k t key node apart none (ByGet get) delivers done =
      let d : GetDelivers plan t key node get = delivers.brings_it in
      let all : is_some (stored plan t key (event_count plan t)) ≡ true = ap is_some d.away.committed in
      let c = first_stores plan t key (event_count plan t) all in
      let x : Event = record { proc = t; at = c.0 } in
      let e : Edge plan x get = Feeds key d.away.is (λ eq. apart (ap (node_of plan) eq ∙ d.there)) (put_once plan settled t key (event_count plan t) (stored_own plan t key (event_count plan t) all)) c.2 in
      let lt : c.0 < s.done t = k.sound.closed x get e (done get refl) in
      true≢false (sym (stored_stays plan t key (suc c.0) (s.done t) lt c.2.something_after) ∙ ap is_some none)

abbrev pub value_at : ℕ → ℕ → Answer
value_at p put = Value (record { proc = p; at = put })

served_reply : (plan : Plan) (p put : ℕ) (same : Bool) → sight_reply p (served plan p same (Some put)) ≡ cond (admits (scope_of plan p put) same) (value_at p put) ExistsOutside
served_reply plan p put same = elim (cases_Bool (admits (scope_of plan p put) same)) [
  | inl t ↦ ap (sight_reply p) (cond-true _ _ _ t) ∙ sym (cond-true _ _ _ t)
  | inr f ↦ ap (sight_reply p) (cond-false _ _ _ f) ∙ sym (cond-false _ _ _ f)
]

-- a scope that admits both is for all
for_all : (scope : Scope) → admits scope true ≡ true → admits scope false ≡ true → scope ≡ Global
for_all Local a b = cc
for_all Remote a b = cc
for_all Global a b = refl

-- a scope that admits both or none is for all
even : (scope : Scope) (p put : ℕ) → cond (admits scope true) (value_at p put) ExistsOutside ≡ cond (admits scope false) (value_at p put) ExistsOutside → scope ≡ Global
even Local p put e = cc
even Remote p put e = cc
even Global p put e = refl

admits_all : (scope : Scope) (same : Bool) → scope ≡ Global → admits scope same ≡ true
admits_all scope same e = ap (λ s. admits s same) e

pub reflexive : (plan : Plan) → IsPlacing plan plan
reflexive plan = record { same_keep = refl; same_count = refl; same_calls = λ p. refl }

-- p and q on one node
pub near_is : (plan : Plan) (p q : ℕ) → p < process_count plan → q < process_count plan → same_node (paired plan p q) p q ≡ true
near_is plan p q a b = eq-eqb _ _ (first_of_pair plan p q a ∙ sym (second_of_pair plan p q b))

-- q alone on its node
pub alone_is : (plan : Plan) (p q : ℕ) → q < process_count plan → (q ≡ p → ⊥) → same_node (paired plan q q) p q ≡ false
alone_is plan p q a ne = ne_eqb _ _ (λ e. ⊎_elim (λ i. ne (sym i)) (λ i. ne (sym i)) (of_pair plan q q p (e ∙ first_of_pair plan q q a)))

-- a process that stores a key is one of the plan's
pub owner_within : (plan : Plan) (p key put : ℕ) → stored plan p key (event_count plan p) ≡ Some put → p < process_count plan
owner_within plan p key put e = let c = first_stores plan p key (event_count plan p) (ap is_some e) in process_within plan p c.0 _ (stores_commit plan (record { proc = p; at = c.0 }) key c.2)

came_admitted : (plan : Plan) (s : State) → Known plan s → (t key node u : ℕ) → (node_of plan t ≡ node → ⊥) → Came plan s t key node u → admits (scope_of plan t u) false ≡ true
came_admitted plan s k t key node u apart (by_fence b a) = a
came_admitted plan s k t key node u apart (by_get keeps g) = (answered_value plan s k.answered t key node u apart g).1

-- what p's server shows on its node is never nothing found
not_nothing : (b : Bool) (p put : ℕ) → cond b (value_at p put) ExistsOutside ≡ NotFound → ⊥
not_nothing true p put e = cc
not_nothing false p put e = cc

-- where it is a value, the scope admits it
is_shown : (b : Bool) (p put u : ℕ) → cond b (value_at p put) ExistsOutside ≡ value_at p u → b ≡ true
is_shown true p put u e = refl
is_shown false p put u e = cc

module _ (plan : Plan) (everywhere : IsSettledAnywhere plan) where
  module _ (other : Plan) (same : IsPlacing plan other) where
    there : IsSettled other
    there = settled_there plan other same everywhere

    -- what isn't done isn't replied to
    not_replied : (x : Event) → (plain_end plan).done x.proc ≤ x.at → plain_reply other x ≡ plain_reply plan x
    not_replied x late =
        slice_get_past ((plain_end other).replies x.proc) x.at (let l = (end_known other there).lengths x.proc in let d = done_alike plan other same x.proc in omega (arith, l, d, late))
        ∙ sym (slice_get_past ((plain_end plan).replies x.proc) x.at (let l = (end_known plan (settled_there plan plan (reflexive plan) everywhere)).lengths x.proc in omega (arith, l, late)))

    done_there : (x : Event) → IsDone (plain_end plan) x → IsDone (plain_end other) x
    done_there x d = let e = done_alike plan other same x.proc in omega (arith, d, e)

    put_there : (p key put : ℕ) → stored plan p key (event_count plan p) ≡ Some put → stored other p key (event_count other p) ≡ Some put
    put_there p key put e = sym (ap (stored plan p key) (counts plan other same p) ∙ stored_same plan other same p key (event_count other p)) ∙ e

  pub own_done : (x : Event) → is_some (plain_reply plan x) ≡ true → IsDone (plain_end plan) x
  own_done x h = elim (cases_lt x.at ((plain_end plan).done x.proc)) [
    | inl lt ↦ lt
    | inr ge ↦ absurd (
        let l = (end_known plan (settled_there plan plan (reflexive plan) everywhere)).lengths x.proc in
        true≢false (sym h ∙ ap is_some (slice_get_past ((plain_end plan).replies x.proc) x.at (omega (arith, l, ge)))))
  ]

  -- the answer to a get of another's key
  pub get_there : (other : Plan) → IsPlacing plan other → (x : Event) (p key put : ℕ) → kind plan x ≡ Some (Get p key) → (x.proc ≡ p → ⊥) → IsDone (plain_end plan) x →
      stored plan p key (event_count plan p) ≡ Some put → plain_reply other x ≡ Some (cond (admits (scope_of plan p put) (same_node other p x.proc)) (value_at p put) ExistsOutside)
  get_there other same x p key put is ne d e =
      (end_known other (there other same)).answered x p key (done_there other same x d) (kind_kept plan other same x (Get p key) refl is) ne
      ∙ ap Some (ap (λ o. sight_reply p (served other p (same_node other p x.proc) o)) (put_there other same p key put e)
      ∙ served_reply other p put (same_node other p x.proc)
      ∙ ap (λ c. cond (admits c (same_node other p x.proc)) (value_at p put) ExistsOutside) (sym (scope_same plan other same p put)))

  get_replies : (x : Event) (p key put : ℕ) → kind plan x ≡ Some (Get p key) → (x.proc ≡ p → ⊥) → is_some (plain_reply plan x) ≡ true → stored plan p key (event_count plan p) ≡ Some put →
      RepliesAlike plan x ↔ (scope_of plan p put ≡ Global)
  get_replies x p key put is ne h e = (
    (λ alike.
        let near = paired plan p x.proc in
        let near_same = placing_is plan (pair_node p x.proc) in
        let alone = paired plan x.proc x.proc in
        let alone_same = placing_is plan (pair_node x.proc x.proc) in
        let q_within = process_within plan x.proc x.at _ is in
        let scope = scope_of plan p put in
        let near_reply : plain_reply near x ≡ Some (cond (admits scope true) (value_at p put) ExistsOutside) = get_there near near_same x p key put is ne (own_done x h) e
        ∙ ap (λ b. Some (cond (admits scope b) (value_at p put) ExistsOutside)) (near_is plan p x.proc (owner_within plan p key put e) q_within) in
        let alone_reply : plain_reply alone x ≡ Some (cond (admits scope false) (value_at p put) ExistsOutside) = get_there alone alone_same x p key put is ne (own_done x h) e
        ∙ ap (λ b. Some (cond (admits scope b) (value_at p put) ExistsOutside)) (alone_is plan p x.proc q_within ne) in
        even scope p put (same_Some _ _ (sym near_reply ∙ alike near near_same ∙ sym (alike alone alone_same) ∙ alone_reply))),
    (λ global other same.
        get_there other same x p key put is ne (own_done x h) e
        ∙ ap Some (cond-true _ _ _ (admits_all _ _ global) ∙ sym (cond-true _ _ _ (admits_all (scope_of plan p put) (same_node plan p x.proc) global)))
        ∙ sym (get_there plan (reflexive plan) x p key put is ne (own_done x h) e)),
  )

  -- a get-now of another's key, at the state in which its process has come to it
  module _ (other : Plan) (same : IsPlacing plan other) (x : Event) (p key : ℕ) (is : kind plan x ≡ Some (GetNow p key)) (ne : x.proc ≡ p → ⊥) (c : CameTo other (plain_end other) x) where
    here : kind other x ≡ Some (GetNow p key)
    here = kind_kept plan other same x (GetNow p key) refl is

    now_said : plain_reply other x ≡ Some (sight_reply p (get_now_sees other c.then_ x.proc x.at p key))
    now_said = c.said ∙ ap (λ o. Some (reply other c.then_ x o)) here

    on_node : same_node other p x.proc ≡ true → plain_reply other x ≡ Some (sight_reply p (served other p true (stored other p key (c.then_.done p))))
    on_node b = now_said ∙ ap (λ v. Some (sight_reply p v)) (cond-false _ _ _ (ne_eqb x.proc p ne) ∙ cond-true _ _ _ b)

    pub off_node : same_node other p x.proc ≡ false → plain_reply other x ≡ Some (sight_reply p (held (brought other c.then_ p key (node_of other x.proc))))
    off_node b = now_said ∙ ap (λ v. Some (sight_reply p v)) (cond-false _ _ _ (ne_eqb x.proc p ne) ∙ cond-false _ _ _ b)

    is_next : next_event c.then_ x.proc ≡ x
    is_next = λ k. record { proc = x.proc; at = c.there k }

    live_here : Live other x
    live_here = subst (λ v. Live other v) is_next (due other c.then_ x.proc c.known.sound c.enabled).is_live

    done_here : (z : Event) → Before other z x → IsDone c.then_ z
    done_here z b = (due other c.then_ x.proc c.known.sound c.enabled).earlier_done z (subst (λ v. Before other z v) (sym is_next) b)

    never_after : (z : Event) → IsDone c.then_ z → Before other x z → ⊥
    never_after z d b = let e = chain_in (closed_cut c.known.sound) b d in let f = c.there in omega (arith, e, f)

    apart : same_node other p x.proc ≡ false → node_of other p ≡ node_of other x.proc → ⊥
    apart away e = true≢false (sym (eq-eqb _ _ e) ∙ away)

    module _ (commit_at put : ℕ) (stores : Stores plan (record { proc = p; at = commit_at }) key) (before : Before plan (record { proc = p; at = commit_at }) x)
        (e : stored plan p key (event_count plan p) ≡ Some put) where
      stored_now : stored other p key (c.then_.done p) ≡ Some put
      stored_now =
          let kept = placing_keeps plan other same in
          let commit : Event = record { proc = p; at = commit_at } in
          let there_stores = (kept.stores commit key).0 stores in
          let d = done_here commit ((kept.chains commit x).0 before) in
          let some = stored_stays other p key (suc commit_at) (c.then_.done p) d there_stores.something_after in
          sym (stored_fixed other (there other same) p key (c.then_.done p) (event_count other p) (c.known.sound.within p) some) ∙ put_there other same p key put e

      pub now_near : same_node other p x.proc ≡ true → plain_reply other x ≡ Some (cond (admits (scope_of plan p put) true) (value_at p put) ExistsOutside)
      now_near b =
          on_node b ∙ ap (λ o. Some (sight_reply p (served other p true o))) stored_now
          ∙ ap Some (served_reply other p put true ∙ ap (λ s. cond (admits s true) (value_at p put) ExistsOutside) (sym (scope_same plan other same p put)))

      put_is : (u : ℕ) → same_node other p x.proc ≡ false → Came other c.then_ p key (node_of other x.proc) u → u ≡ put
      put_is u away k =
          same_Some _ _ (sym (came_value other (there other same) c.then_ c.known.answered p key (node_of other x.proc) (apart away) u k) ∙ put_there other same p key put e)

      -- on another node than the owner's a sure delivery shows it
      pub sure_away : same_node other p x.proc ≡ false → HasSurely plan p key x.proc x → plain_reply other x ≡ Some (value_at p put)
      sure_away away sure =
          let h = surely_kept plan other same p key x.proc x sure in
          let node = node_of other x.proc in
          let w = came_of other c.then_ c.known.answered p key node (apart away) h.delivery (to_node other p key node x.proc h.delivery refl h.carries) (λ z a. done_here z (h.all_before z a)) in
          off_node away
          ∙ ap (λ o. Some (sight_reply p (held o))) (came_is other (there other same) c.then_ c.known.answered p key node (apart away) w.0 w.1)
          ∙ ap (λ u. Some (value_at p u)) (put_is w.0 away w.1)

      -- and everywhere where the scope is for all
      now_sure : scope_of plan p put ≡ Global → HasSurely plan p key x.proc x → plain_reply other x ≡ Some (value_at p put)
      now_sure global sure = elim (cases_Bool (same_node other p x.proc)) [
        | inl b ↦ now_near b ∙ ap Some (cond-true _ _ _ (admits_all _ _ global))
        | inr away ↦ sure_away away sure
      ]

      -- where it isn't on the owner's node, alone on its own, and finds something
      module _ (away : same_node other p x.proc ≡ false) (alone : (m : ℕ) → node_of other m ≡ node_of other x.proc → m ≡ x.proc) (u : ℕ)
          (found : brought other c.then_ p key (node_of other x.proc) ≡ Some u) where
        it_came : Came other c.then_ p key (node_of other x.proc) u
        it_came = came other c.then_ p key (node_of other x.proc) u found

        pub alone_sure : HasSurely plan p key x.proc x
        alone_sure =
            let w = came_by other c.then_ (closed_cut c.known.sound) c.known.answered p key (node_of other x.proc) u (apart away) it_came in
            let m = to_process other p key (node_of other x.proc) w.0 (apart away) w.1 in
            let carries : Carries other p key x.proc w.0 = subst (λ k. Carries other p key k w.0) (alone m.0 m.2) m.1 in
            surely_kept other plan (turned same) p key x.proc x (⊎_elim
            (λ all. record { delivery = w.0; carries = carries; all_before = all })
            (λ z. absurd (never_after z.0 (w.2 z.0 z.1) z.2))
            (reader_takes_no_part other p key p key x w.0 here live_here carries))

        alone_admits : admits (scope_of plan p put) false ≡ true
        alone_admits =
            ap (λ s. admits s false) (scope_same plan other same p put ∙ ap (scope_of other p) (sym (put_is u away it_came)))
            ∙ came_admitted other c.then_ c.known p key (node_of other x.proc) u (apart away) it_came

        alone_reply : plain_reply other x ≡ Some (value_at p put)
        alone_reply = off_node away ∙ ap (λ o. Some (sight_reply p (held o))) found ∙ ap (λ v. Some (value_at p v)) (put_is u away it_came)

    -- where no commit of the key is before it, it finds nothing
    module _ (none_before : (commit : Event) → commit.proc ≡ p → Stores plan commit key → Before plan commit x → ⊥) where
      none_stored : stored other p key (c.then_.done p) ≡ None
      none_stored = go (stored other p key (c.then_.done p)) refl
        where
          go : (o : Option ℕ) → stored other p key (c.then_.done p) ≡ o → stored other p key (c.then_.done p) ≡ None
          go None e = e
          go (Some v) e =
              let kept = placing_keeps plan other same in
              let first = first_stores other p key (c.then_.done p) (ap is_some e) in
              let commit : Event = record { proc = p; at = first.0 } in
              let all = stored_own other p key (event_count other p) (stored_stays other p key (c.then_.done p) (event_count other p) (c.known.sound.within p) (ap is_some e)) in
              absurd (everywhere.no_near_race commit x key ((kept.near_races commit x key).1 (record {
                is = here;
                another = ne;
                once = put_once other (there other same) p key (event_count other p) all;
                stores = first.2;
                unordered = record {
                  live_x = c.known.sound.live_done commit first.1;
                  live_y = live_here;
                  not_before = λ b. none_before commit refl ((kept.stores commit key).1 first.2) ((kept.chains commit x).1 b);
                  not_after = λ b. never_after commit first.1 b;
                };
              })))

      finds_none : plain_reply other x ≡ Some NotFound
      finds_none = elim (cases_Bool (same_node other p x.proc)) [
        | inl b ↦ on_node b ∙ ap (λ o. Some (sight_reply p (served other p true o))) none_stored
        | inr away ↦ go away (brought other c.then_ p key (node_of other x.proc)) refl
      ]
        where
          go : same_node other p x.proc ≡ false → (o : Option ℕ) → brought other c.then_ p key (node_of other x.proc) ≡ o → plain_reply other x ≡ Some NotFound
          go away None e = off_node away ∙ ap (λ o. Some (sight_reply p (held o))) e
          go away (Some u) e =
              let node = node_of other x.proc in
              let w = came_by other c.then_ (closed_cut c.known.sound) c.known.answered p key node u (apart away) (came other c.then_ p key node u e) in
              absurd (none_came other (there other same) c.then_ c.known p key node (apart away) none_stored w.0 w.1 w.2)

  pub came_there : (other : Plan) → (same : IsPlacing plan other) → (x : Event) → IsDone (plain_end plan) x → CameTo other (plain_end other) x
  came_there other same x d = came_to other (there other same) x (done_there other same x d)

  now_replies : (commit x : Event) (key put : ℕ) → kind plan x ≡ Some (GetNow commit.proc key) → (x.proc ≡ commit.proc → ⊥) → is_some (plain_reply plan x) ≡ true → Stores plan commit key →
      Before plan commit x → stored plan commit.proc key (event_count plan commit.proc) ≡ Some put →
      RepliesAlike plan x ↔ ((scope_of plan commit.proc put ≡ Global) × HasSurely plan commit.proc key x.proc x)
  now_replies commit x key put is ne h stores before e = (only, (λ w other same. sure w.0 w.1 other same ∙ sym (sure w.0 w.1 plan (reflexive plan))))
    where
      d : IsDone (plain_end plan) x
      d = own_done x h

      sure : scope_of plan commit.proc put ≡ Global → HasSurely plan commit.proc key x.proc x → (other : Plan) → IsPlacing plan other → plain_reply other x ≡ Some (value_at commit.proc put)
      sure global has other same = now_sure other same x commit.proc key is ne (came_there other same x d) commit.at put stores before e global has

      only : RepliesAlike plan x → (scope_of plan commit.proc put ≡ Global) × HasSurely plan commit.proc key x.proc x
      only alike =
          let near = paired plan commit.proc x.proc in
          let near_same = placing_is plan (pair_node commit.proc x.proc) in
          let alone = paired plan x.proc x.proc in
          let alone_same = placing_is plan (pair_node x.proc x.proc) in
          let q_within = process_within plan x.proc x.at _ is in
          let away = alone_is plan commit.proc x.proc q_within ne in
          let c = came_there alone alone_same x d in
          let near_reply = now_near near near_same x commit.proc key is ne (came_there near near_same x d) commit.at put stores before e
          (near_is plan commit.proc x.proc (process_within plan commit.proc commit.at _ (stores_commit plan commit key stores)) q_within) in
          let joined = sym near_reply ∙ alike near near_same ∙ sym (alike alone alone_same) in
          go away c joined (brought alone c.then_ commit.proc key (node_of alone x.proc)) refl
        where
          go : same_node (paired plan x.proc x.proc) commit.proc x.proc ≡ false → (c : CameTo (paired plan x.proc x.proc) (plain_end (paired plan x.proc x.proc)) x) →
              Some (cond (admits (scope_of plan commit.proc put) true) (value_at commit.proc put) ExistsOutside) ≡ plain_reply (paired plan x.proc x.proc) x →
              (o : Option ℕ) → brought (paired plan x.proc x.proc) c.then_ commit.proc key (node_of (paired plan x.proc x.proc) x.proc) ≡ o →
              (scope_of plan commit.proc put ≡ Global) × HasSurely plan commit.proc key x.proc x
          go away c joined None none =
              absurd (not_nothing (admits (scope_of plan commit.proc put) true) commit.proc put (same_Some _ _ (joined
              ∙ off_node (paired plan x.proc x.proc) (placing_is plan (pair_node x.proc x.proc)) x commit.proc key is ne c away
              ∙ ap (λ o. Some (sight_reply commit.proc (held o))) none)))
          go away c joined (Some u) found =
              let alone_same = placing_is plan (pair_node x.proc x.proc) in
              let alone_on = first_of_pair plan x.proc x.proc (process_within plan x.proc x.at _ is) in
              let only_one = λ (m : ℕ) (on : node_of (paired plan x.proc x.proc) m ≡ node_of (paired plan x.proc x.proc) x.proc).
              ⊎_elim (λ (i : m ≡ x.proc). i) (λ (i : m ≡ x.proc). i) (of_pair plan x.proc x.proc m (on ∙ alone_on)) in
              let reply_is = alone_reply (paired plan x.proc x.proc) alone_same x commit.proc key is ne c commit.at put stores before e away only_one u found in (
                for_all (scope_of plan commit.proc put) (is_shown _ commit.proc put put (same_Some _ _ (joined ∙ reply_is)))
                    (alone_admits (paired plan x.proc x.proc) alone_same x commit.proc key is ne c commit.at put stores before e away only_one u found),
                alone_sure (paired plan x.proc x.proc) alone_same x commit.proc key is ne c commit.at put stores before e away only_one u found,
              )

  now_else : (x : Event) (p key : ℕ) → kind plan x ≡ Some (GetNow p key) → (x.proc ≡ p → ⊥) → ((commit : Event) → commit.proc ≡ p → Stores plan commit key → Before plan commit x → ⊥) → RepliesAlike plan x
  now_else x p key is ne none other same = elim (cases_lt x.at ((plain_end plan).done x.proc)) [
    | inr late ↦ not_replied other same x late
    | inl d ↦
        finds_none other same x p key is ne (came_there other same x d) none ∙ sym (finds_none plan (reflexive plan) x p key is ne (came_there plan (reflexive plan) x d) none)
  ]

  others : (x : Event) → tells_places x.proc (kind plan x) ≡ false → RepliesAlike plan x
  others x f other same =
      let far = run_alike plan other same in
      sym ((far.runs (plain_run plan)).replies x f ∙ ap (λ w. slice_get ((run other w).replies x.proc) x.at) far.plain)

pub replies_anywhere : RepliesAnywhere
replies_anywhere plan everywhere = record {
  get = get_replies plan everywhere;
  get_now_after = now_replies plan everywhere;
  get_now_else = now_else plan everywhere;
  other_calls = others plan everywhere;
}
