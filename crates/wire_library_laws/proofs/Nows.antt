-- Get-nows on a portable plan: the answer is the one that the rules give.
use Rattle.std.proofs.Common.{◌≡◌, ℕ, suc, ◌<◌, ◌≤◌, List, true, false, ◌==◌, Option, Some, None, is_some, ◌⊎◌, inl, inr, refl, sym, ap, ◌∙◌, subst, arith, eq-eqb, ne_eqb}
use Rattle.std.proofs.lemmas.Bool.{cond-true, cond-false, cases_Bool, cases_lt, true≢false}
use Rattle.wire_runs.specs.Plan.{Plan, Get, GetNow, kind, kind_at, event_count, node_of, same_node, admits, Event}
use Rattle.wire_runs.specs.State.{Answer, State, next_event, next_kind, IsDone}
use Rattle.wire_runs.specs.Puts.{stored, scope_of}
use Rattle.wire_runs.specs.Fences.{arrivals, is_complete, has_node}
use Rattle.wire_runs.specs.Sight.{Nothing, Outside, Shown, held, served, brought, get_now_sees}
use Rattle.wire_runs.specs.Step.{is_seen, sight_reply, is_enabled, may_do}
use Rattle.wire_runs.specs.Order.{Stores, IsArrival, Before}
use Rattle.wire_runs.specs.Races.{ByFence, ByGet, FenceDelivers, ComesSurely}
use Rattle.wire_runs.specs.Laws.{IsDue}
use Rattle.wire_runs.proofs.Basics.{stored_stays, stores_commit, event_within}
use Rattle.wire_runs.proofs.Due.{Sound, chain_done, arrived, due}
use Rattle.wire_runs.proofs.Puts.{first_stores}
use Rattle.wire_runs.proofs.Brought.{complete_more}
use Rattle.wire_runs.proofs.Came.{Came, by_fence as came_by_fence, by_get as came_by_get, came, came_of, brings_parts}
use Rattle.wire_runs.proofs.Fates.{served_is_seen}
use Rattle.wire_runs.proofs.Collecting.{collects_by_all}
use Rattle.wire_library_laws.specs.Library.{Family, Words, Moment, told, Since, IsOpen, HasCome, by_fence, by_get, SurelyCame, left as left_it, got as got_it, NowSays, own_put, near, value, none}
use Rattle.wire_library_laws.specs.Portable.{ComesWithin, fence, get, SeesNothing, LibrariesHave, left, got, nothing, surely, IsPortable}
use Rattle.wire_library_laws.proofs.Stored.{stored_fixed, stored_past_start}
use Rattle.wire_library_laws.proofs.Past.{AllByRules, sound, done_first, asked, all_before, all_since, before_since, done_since, event_since}
use Rattle.wire_library_laws.proofs.Gets.{there_now}
use Rattle.wire_library_laws.proofs.Got.{Got, answered_of, came_is}

-- a fence whose arrivals are done, all of which agree in collecting with one that collects
fence_delivers : (family : Family) (words : Words) (plan : Plan) → IsPortable family words plan → (s : State) → Sound plan s → (node owner key u : ℕ) (members : List ℕ) (j : ℕ) (call : Event)
    (of_it : IsArrival plan members j call) → of_it.collect ≡ true → is_complete plan s.done members j ≡ true → has_node plan members node ≡ true → (at : ℕ) →
    IsArrival plan members j (record { proc = owner; at = at }) → stored plan owner key at ≡ Some u → admits (scope_of plan owner u) false ≡ true → FenceDelivers plan owner key node members j
fence_delivers family words plan portable s k node owner key u members j call of_it collects complete reaches at arrival here for_others = record {
  reaches = reaches;
  away = record {
    full = complete_more plan s.done (event_count plan) members j k.within complete;
    collecting = (collects_by_all plan members j).1 (λ z z_arrives.
        (portable.fences members j).agree z call z_arrives of_it (k.live_done z (arrived plan s.done members j z complete z_arrives)) (k.live_done call (arrived plan s.done members j call complete of_it))
        ∙ collects);
    member = arrival.member;
    at = at;
    put = u;
    arrival = arrival;
    committed = here;
    admitted = for_others;
  };
}

module _ (family : Family) (words : Words) (plan : Plan) (portable : IsPortable family words plan) (past : List Moment) (all : AllByRules plan past) (p owner key : ℕ)
    (is : next_kind plan (told plan past) p ≡ Some (GetNow owner key)) (known : Got plan (told plan past)) where
  abbrev pub s : State
  s = told plan past

  abbrev pub g : Event
  g = next_event s p

  undone : (z : Event) → Before plan g z → IsDone s z → ⊥
  undone z b d = let here = chain_done plan s (sound plan past all) b d in omega (arith, here)

  -- by the rules nothing has come to the node
  nothing_came : SeesNothing plan owner key g → brought plan s owner key (node_of plan p) ≡ None
  nothing_came unseen = go (brought plan s owner key (node_of plan p)) refl
    where
      came_not : (u : ℕ) → Came plan s owner key (node_of plan p) u → ⊥
      came_not u (came_by_fence b for_others) =
          let j = arrivals plan owner b.members (suc b.at) in
          let parts = brings_parts plan s.done owner (node_of plan p) b.members j b.brings_it in
          let delivers : FenceDelivers plan owner key (node_of plan p) b.members j = record {
            reaches = parts.3;
            away = record {
              full = complete_more plan s.done (event_count plan) b.members j (sound plan past all).within parts.0;
              collecting = parts.1;
              member = parts.2;
              at = b.at;
              put = u;
              arrival = record { collect = b.collect; is = b.is; member = parts.2; nth = refl };
              committed = b.stored_is;
              admitted = for_others;
            };
          } in
          let all_done : (z : Event) → IsArrival plan b.members j z → IsDone s z = λ z a. arrived plan s.done b.members j z parts.0 a in
          let r = unseen (ByFence b.members j) (fence delivers (λ z a. (sound plan past all).live_done z (all_done z a))) in
          undone r.0 r.2 (all_done r.0 r.1)
      came_not u (came_by_get keeps h) =
          let r = unseen (ByGet h.get)
          (get key h.is h.there ((sound plan past all).live_done h.get h.is_done) (λ ne. absurd (ne refl))) in
          undone r.0 r.2 (subst (IsDone s) (sym r.1) h.is_done)

      go : (o : Option ℕ) → brought plan s owner key (node_of plan p) ≡ o → brought plan s owner key (node_of plan p) ≡ None
      go None e = e
      go (Some u) e = absurd (came_not u (came plan s owner key (node_of plan p) u e))

  -- nor can it in the library
  module _ (unseen : SeesNothing plan owner key g) (away : same_node plan owner p ≡ false) (reader other_key : ℕ) (before moment : List Moment) (opened : IsOpen plan before moment reader) (there : node_of plan reader ≡ node_of plan p)
      (is_get : next_kind plan (told plan before) reader ≡ Some (Get owner other_key)) (until : Since moment past) (u : ℕ)
      (own_too : family.at_once ≡ false → is_some (stored plan owner other_key ((told plan moment).done owner)) ≡ true)
      (here : stored plan owner key ((told plan moment).done owner) ≡ Some u) (for_others : admits (scope_of plan owner u) false ≡ true) where
    abbrev m : State
    m = told plan moment

    abbrev h : Event
    h = next_event m reader

    at_moment : AllByRules plan moment
    at_moment = all_since plan until all

    first : AllByRules plan before
    first = all_before plan opened at_moment

    is_now : kind plan h ≡ Some (Get owner other_key)
    is_now = ap (kind_at plan reader) opened.unanswered ∙ is_get

    apart : same_node plan owner reader ≡ false
    apart = ap (λ n. node_of plan owner == n) there ∙ away

    other : reader ≡ owner → ⊥
    other e = true≢false (sym (eq-eqb (node_of plan owner) (node_of plan reader) (ap (node_of plan) (sym e))) ∙ apart)

    its_key : is_some (stored plan owner other_key (m.done owner)) ≡ true
    its_key = elim (cases_Bool family.at_once) [ inl t ↦ go t (first_stores plan owner key (m.done owner) (ap is_some here)) | inr n ↦ own_too n ]
      where
        go : family.at_once ≡ true → (i : ℕ) × (i < m.done owner) × Stores plan (record { proc = owner; at = i }) key → is_some (stored plan owner other_key (m.done owner)) ≡ true
        go at_once c = by_cases (stored plan owner other_key (suc c.0)) refl
          where
            x : Event
            x = record { proc = owner; at = c.0 }

            by_cases : (o : Option ℕ) → stored plan owner other_key (suc c.0) ≡ o → is_some (stored plan owner other_key (m.done owner)) ≡ true
            by_cases (Some v) e = let l = c.1 in stored_stays plan owner other_key (suc c.0) (m.done owner) (omega (arith, l)) (ap is_some e)
            by_cases None e =
                let t = (portable.far h owner other_key (record { is = is_now; other = other; where_it_is = apart; asked = asked plan before first h (sym opened.unanswered) })).first at_once
                (record { proc = owner; at = c.0 })
                (record { is = stores_commit plan (record { proc = owner; at = c.0 }) key c.2; its = refl; is_live = (sound plan moment at_moment).live_done (record { proc = owner; at = c.0 }) c.1; missing = e }) in
                there_now plan moment at_moment owner other_key t.event t.its t.there
                (event_since plan (before_since opened.asked) t.event (done_first plan before first t.event h (sym opened.unanswered) t.first))

    enabled : is_enabled plan m reader ≡ true
    enabled =
        ap (may_do plan m h) is_now ∙ ap is_seen (cond-false _ _ _ (ne_eqb reader owner other))
        ∙ served_is_seen plan owner (same_node plan owner reader) (stored plan owner other_key (m.done owner)) its_key

    its_due : IsDue plan m h
    its_due = due plan m reader (sound plan moment at_moment) enabled

    late : (commit : Event) → commit.proc ≡ owner → Stores plan commit key → Before plan h commit → ⊥
    late commit its stores b = go (cases_lt commit.at (m.done commit.proc))
      where
        go : (commit.at < m.done commit.proc) ⊎ (m.done commit.proc ≤ commit.at) → ⊥
        go (inl d) = let d' = chain_done plan m (sound plan moment at_moment) b d in omega (arith, d')
        go (inr le) =
            let same : m.done commit.proc ≡ m.done owner = ap m.done its in
            let some = stored_stays plan owner key (m.done owner) commit.at (omega (arith, le, same)) (ap is_some here) in
            true≢false (sym some ∙ ap is_some (subst (λ r. stored plan r key commit.at ≡ None) its stores.nothing_before))

    get_not : ⊥
    get_not =
        let c = first_stores plan owner key (m.done owner) (ap is_some here) in
        let below = c.1 in
        let comes : ComesWithin plan owner key h = record {
          commit = record { proc = owner; at = c.0 };
          its = refl;
          stores = c.2;
          is_live = (sound plan moment at_moment).live_done (record { proc = owner; at = c.0 }) c.1;
          put = u;
          here = sym (stored_fixed plan portable.no_rewrite owner key (suc c.0) (m.done owner) (omega (arith, below)) c.2.something_after) ∙ here;
          admitted = for_others;
          late = late (record { proc = owner; at = c.0 }) refl c.2;
        } in
        let r = unseen (ByGet h) (get other_key is_now there its_due.is_live (λ ne. comes)) in
        let d = its_due.earlier_done g (subst (Before plan g) r.1 r.2) in
        let up = done_since plan until p in
        omega (arith, d, up)

  nothing_can : SeesNothing plan owner key g → same_node plan owner p ≡ false → (u : ℕ) → HasCome family plan past (node_of plan p) owner key u → ⊥
  nothing_can unseen away u (by_fence members j call of_it collects complete reaches at arrival here for_others) =
      let delivers = fence_delivers family words plan portable s (sound plan past all) (node_of plan p) owner key u members j call of_it collects complete reaches at arrival here for_others in
      let all_done : (z : Event) → IsArrival plan members j z → IsDone s z = λ z a. arrived plan s.done members j z complete a in
      let r = unseen (ByFence members j) (fence delivers (λ z a. (sound plan past all).live_done z (all_done z a))) in
      undone r.0 r.2 (all_done r.0 r.1)
  nothing_can unseen away u (by_get reader other_key before moment opened there is_get until own_too n le at_n for_others) =
      let here = stored_fixed plan portable.no_rewrite owner key n ((told plan moment).done owner) le (ap is_some at_n) ∙ at_n in
      get_not unseen away reader other_key before moment opened there is_get until u own_too here for_others

  -- on the owner's node nothing is seen that is for other nodes alone
  not_outside : (p ≡ owner → ⊥) → same_node plan owner p ≡ true → served plan owner true (stored plan owner key (s.done owner)) ≡ Outside → ⊥
  not_outside other here = go (stored plan owner key (s.done owner)) refl
    where
      shown_not : (u : ℕ) → Shown u ≡ Outside → ⊥
      shown_not u e = cc

      nothing_not : Nothing ≡ Outside → ⊥
      nothing_not e = cc

      go : (o : Option ℕ) → stored plan owner key (s.done owner) ≡ o → served plan owner true o ≡ Outside → ⊥
      go None e h = nothing_not h
      go (Some u) e h = elim (cases_Bool (admits (scope_of plan owner u) true)) [
        | inl t ↦ shown_not u (sym (cond-true _ _ _ t) ∙ h)
        | inr f ↦
            (let n = stored_past_start plan owner key (s.done owner) (ap is_some e) in
            let x : Event = record { proc = owner; at = n.0 } in
            let eq = n.1 in
            let x_done : IsDone s x = omega (arith, eq) in
            undone x (portable.near_now g owner key is other here (asked plan past all g refl) x u refl ((sound plan past all).live_done x x_done) (ap (stored plan owner key) (sym eq) ∙ e) f) x_done)
      ]

  p_other : same_node plan owner p ≡ false → p ≡ owner → ⊥
  p_other away e = true≢false (sym (eq-eqb (node_of plan owner) (node_of plan p) (ap (node_of plan) (sym e))) ∙ away)

  away_node : same_node plan owner p ≡ false → node_of plan owner ≡ node_of plan p → ⊥
  away_node away e = true≢false (sym (eq-eqb (node_of plan owner) (node_of plan p) e) ∙ away)

  -- what the rules show a get-now of another node
  shows : same_node plan owner p ≡ false → get_now_sees plan s p (s.done p) owner key ≡ held (brought plan s owner key (node_of plan p))
  shows away = cond-false _ _ _ (ne_eqb p owner (p_other away)) ∙ cond-false _ _ _ away

  own_due : IsDue plan s g
  own_due = due plan s p (sound plan past all) (ap (may_do plan s g) is)

  -- whatever may have come is what the owner stores in the end
  come_is : (u : ℕ) → HasCome family plan past (node_of plan p) owner key u → stored plan owner key (event_count plan owner) ≡ Some u
  come_is u (by_fence members j call of_it collects complete reaches at arrival here for_others) =
      let below = event_within plan owner at _ arrival.is in
      stored_fixed plan portable.no_rewrite owner key at (event_count plan owner) (omega (arith, below)) (ap is_some here) ∙ here
  come_is u (by_get reader other_key before moment opened there is_get until own_too n le at_n for_others) =
      let within = (sound plan past all).within owner in
      let up = done_since plan until owner in
      stored_fixed plan portable.no_rewrite owner key n (event_count plan owner) (omega (arith, le, within, up)) (ap is_some at_n) ∙ at_n

  -- where it comes surely, the rules show it
  rules_have : same_node plan owner p ≡ false → ComesSurely plan owner key (node_of plan p) g → (u : ℕ) × (brought plan s owner key (node_of plan p) ≡ Some u)
      × (stored plan owner key (event_count plan owner) ≡ Some u)
  rules_have away sure =
      came_is plan portable.no_rewrite s (answered_of plan s known) owner key (node_of plan p) (away_node away)
      (came_of plan s (answered_of plan s known) owner key (node_of plan p) (away_node away) sure.delivery sure.delivers (λ z z_of. own_due.earlier_done z (sure.all_before z z_of)))

  libraries_have : same_node plan owner p ≡ false → LibrariesHave family words plan owner key g → SurelyCame family words plan past (node_of plan p) owner key
  libraries_have away (left members j mate leave brings delivers is_mate leaves nth there before) = left_it members j mate leave brings delivers is_mate leaves nth there (own_due.earlier_done leave before)
  libraries_have away (got reader commit other_key u is_get there before its stores here for_others) =
      let answer = known reader owner other_key (own_due.earlier_done reader before) is_get (λ e. away_node away (ap (node_of plan) (sym e) ∙ there)) in
      got_it reader (record { proc = owner; at = answer.0 }) commit other_key u is_get there answer.1 its stores here for_others

  -- the answer to a get-now is the rules'
  pub now_is : (a : Answer) → NowSays family words plan past p owner key a → a ≡ sight_reply owner (get_now_sees plan s p (s.done p) owner key)
  now_is a (own_put e said) = said ∙ ap (sight_reply owner) (sym (cond-true _ _ _ (eq-eqb p owner e)))
  now_is a (near other here said) =
      said (not_outside other here) ∙ ap (sight_reply owner) (sym (cond-false _ _ _ (ne_eqb p owner other) ∙ cond-true _ _ _ here))
  now_is a (value u away come said) = elim (portable.far_now g owner key is away (asked plan past all g refl)) [
    | nothing unseen ↦ absurd (nothing_can unseen away u come)
    | surely rules libraries ↦
        (let v = rules_have away rules in
        said ∙ ap (sight_reply owner) (sym (shows away ∙ ap held (v.1 ∙ sym v.2 ∙ come_is u come))))
  ]
  now_is a (none away sure said) = elim (portable.far_now g owner key is away (asked plan past all g refl)) [
    | nothing unseen ↦ said ∙ ap (sight_reply owner) (sym (shows away ∙ ap held (nothing_came unseen)))
    | surely rules libraries ↦ absurd (sure (libraries_have away libraries))
  ]
