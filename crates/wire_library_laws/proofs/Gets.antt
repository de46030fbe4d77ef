-- Gets on a portable plan: none fails, and a value is the one that the rules give.
use Rattle.std.proofs.Common.{◌≡◌, ℕ, suc, ◌≤◌, List, Bool, true, false, ◌==◌, Option, Some, None, is_some, ◌⊎◌, inl, inr, refl, sym, ap, ◌∙◌, subst, arith, eq-eqb, ne_eqb}
use Rattle.std.proofs.lemmas.Bool.{cond-true, cond-false, cases_eq, cases_Bool, true≢false}
use Rattle.std.proofs.lemmas.Option.{same_Some}
use Rattle.wire_runs.specs.Plan.{Plan, Kind, Get, kind_at, event_count, node_of, same_node, admits, Event}
use Rattle.wire_runs.specs.State.{Answer, Value, State, next_event, next_kind, IsDone}
use Rattle.wire_runs.specs.Puts.{stored, scope_of}
use Rattle.wire_runs.specs.Sight.{Shown, held, served, get_sees}
use Rattle.wire_runs.specs.Step.{is_seen, sight_reply}
use Rattle.wire_runs.proofs.Basics.{stored_stays, stores_commit}
use Rattle.wire_runs.proofs.Puts.{first_stores}
use Rattle.wire_library_laws.specs.Library.{Family, Words, Moment, told, IsOpen, IsMade, FailsNear, FailsFar, GetSays, own_put, value, outside, fails_near, fails_far}
use Rattle.wire_library_laws.specs.Portable.{IsGetOf, IsPortableNear, IsFor, IsThereFirst, Lacks, IsPortable}
use Rattle.wire_library_laws.proofs.Stored.{stored_fixed, missing_before, stored_past_start}
use Rattle.wire_library_laws.proofs.Past.{AllByRules, sound, done_first, asked, all_before, all_since, before_since, done_since, event_since}

abbrev key_of : Kind → ℕ
key_of (Get owner key) = key
key_of _ = 0

pub same_key : {owner key other : ℕ} → Get owner key ≡ Get owner other → key ≡ other
same_key e = ap key_of e

module _ (plan : Plan) (past : List Moment) (all : AllByRules plan past) where
  -- what is there now is for processes of this kind of node
  pub admitted : (p key u : ℕ) (near : Bool) → IsFor plan p key near → stored plan p key ((told plan past).done p) ≡ Some u → admits (scope_of plan p u) near ≡ true
  admitted p key u near is_for here =
      let m = stored_past_start plan p key ((told plan past).done p) (ap is_some here) in
      let n = m.1 in
      let x : Event = record { proc = p; at = m.0 } in
      is_for x u refl ((sound plan past all).live_done x (omega (arith, n))) (ap (stored plan p key) (sym n) ∙ here)

  -- p's key is there if an event is done after which it is
  pub there_now : (p key : ℕ) (x : Event) → x.proc ≡ p → is_some (stored plan p key (suc x.at)) ≡ true → IsDone (told plan past) x → is_some (stored plan p key ((told plan past).done p)) ≡ true
  there_now p key x its there d =
      let same : (told plan past).done x.proc ≡ (told plan past).done p = ap (told plan past).done its in
      stored_stays plan p key (suc x.at) ((told plan past).done p) (omega (arith, d, same)) there

module _ (family : Family) (words : Words) (plan : Plan) (portable : IsPortable family words plan) (before past : List Moment) (all : AllByRules plan past) (p : ℕ)
    (opened : IsOpen plan before past p) (owner key : ℕ) (is : next_kind plan (told plan past) p ≡ Some (Get owner key)) where
  abbrev pub s : State
  s = told plan past

  abbrev pub g : Event
  g = next_event s p

  first : AllByRules plan before
  first = all_before plan opened all

  come : (told plan before).done p ≡ s.done p
  come = sym opened.unanswered

  get_of : (near : Bool) → (p ≡ owner → ⊥) → same_node plan owner p ≡ near → IsGetOf plan near owner key g
  get_of near other here = record { is = is; other = other; where_it_is = here; asked = asked plan past all g refl }

  -- no get that waits for a process of its node fails
  near_holds : (p ≡ owner → ⊥) → same_node plan owner p ≡ true → FailsNear family plan before past owner key → ⊥
  near_holds other here f = elim f.missing [
    | inl none ↦
        f.since (done_first plan before first f.commit g come (rules.first f.commit
        (record { is = f.made.is; its = f.made.its; is_live = (sound plan past all).live_done f.commit f.made.is_done; missing = none })))
    | inr both ↦ lacked both.0 both.1 (stored plan owner key f.commit.at) refl
  ]
    where
      rules : IsPortableNear family plan owner key g
      rules = portable.near g owner key (get_of true other here)

      lacked : family.flaky ≡ true → stored plan owner key ((told plan before).done owner) ≡ None → (o : Option ℕ) → stored plan owner key f.commit.at ≡ o → ⊥
      lacked flaky none None e =
          f.since (done_first plan before first f.commit g come (rules.flaky flaky f.commit
          (record { is = f.made.is; its = f.made.its; is_live = (sound plan past all).live_done f.commit f.made.is_done; missing = e })))
      lacked flaky none (Some v) e =
          let c = first_stores plan owner key f.commit.at (ap is_some e) in
          let x : Event = record { proc = owner; at = c.0 } in
          let below = c.1 in
          let made = f.made.is_done in
          let same : s.done f.commit.proc ≡ s.done owner = ap s.done f.made.its in
          let x_done : IsDone s x = omega (arith, below, made, same) in
          let x_first = done_first plan before first x g come (rules.flaky flaky x
          (record { is = stores_commit plan x key c.2; its = refl; is_live = (sound plan past all).live_done x x_done; missing = c.2.nothing_before })) in
          true≢false (sym (there_now plan before first owner key x refl c.2.something_after x_first) ∙ ap is_some none)

  other_apart : (q : ℕ) → same_node plan owner q ≡ false → q ≡ owner → ⊥
  other_apart q away e = true≢false (sym (eq-eqb (node_of plan owner) (node_of plan q) (ap (node_of plan) (sym e))) ∙ away)

  -- no get that waits for a process of another node fails
  pub far_holds : same_node plan owner p ≡ false → FailsFar family plan before past p owner key → ⊥
  far_holds away f = true≢false (sym (now_there (cases_eq f.other p)) ∙ ap is_some f.missing)
    where
      at_moment : AllByRules plan f.moment
      at_moment = all_since plan f.until all

      other_first : AllByRules plan f.other_before
      other_first = all_before plan f.open_then (all_since plan opened.asked all)

      h : Event
      h = next_event (told plan f.other_before) f.other

      not_yet : (told plan f.other_before).done p ≤ s.done p
      not_yet = let a = done_since plan (before_since f.from) p in let b = done_since plan f.until p in omega (arith, a, b)

      lacks : (c : Event) → IsMade plan f.moment owner c → Lacks plan owner key c
      lacks c made =
          let d = made.is_done in
          let same : (told plan f.moment).done c.proc ≡ (told plan f.moment).done owner = ap (told plan f.moment).done made.its in
          record {
            is = made.is;
            its = made.its;
            is_live = (sound plan f.moment at_moment).live_done c made.is_done;
            missing = missing_before plan owner key (suc c.at) ((told plan f.moment).done owner) (omega (arith, d, same)) f.missing;
          }

      by_moment : (z : Event) → (told plan f.other_before).done z.proc ≡ z.at → IsThereFirst plan owner key z → is_some (stored plan owner key ((told plan f.moment).done owner)) ≡ true
      by_moment z next t =
          there_now plan f.moment at_moment owner key t.event t.its t.there
          (event_since plan (before_since f.from) t.event (done_first plan f.other_before other_first t.event z next t.first))

      mate : (f.other ≡ p → ⊥) → (c : Event) → IsMade plan f.moment owner c → (family.at_once ≡ false → is_some (stored plan owner f.other_key (suc c.at)) ≡ true) → IsThereFirst plan owner key h
      mate ne c made brings_its =
          let there : same_node plan owner f.other ≡ false = ap (λ n. node_of plan owner == n) f.there ∙ away in
          portable.mates g h owner key f.other_key (get_of false (other_apart p away) away)
          (record { is = f.other_is; other = other_apart f.other there; where_it_is = there; asked = asked plan f.other_before other_first h refl })
          (λ e. ne (sym e)) (sym f.there)
          (λ first_g. let d = done_first plan f.other_before other_first g h refl first_g in omega (arith, d, not_yet))
          (λ first_h. let d = done_first plan before first h g come first_h in let same = f.open_then.unanswered in omega (arith, d, same))
          c (lacks c made) brings_its

      -- a commit with which the key of the other get comes
      with_its_key : is_some (stored plan owner f.other_key ((told plan f.moment).done owner)) ≡ true → (c : Event) × IsMade plan f.moment owner c
          × (is_some (stored plan owner f.other_key (suc c.at)) ≡ true)
      with_its_key there =
          let c = first_stores plan owner f.other_key ((told plan f.moment).done owner) there in
          (record { proc = owner; at = c.0 }, record { is = stores_commit plan (record { proc = owner; at = c.0 }) f.other_key c.2; its = refl; is_done = c.1 }, c.2.something_after)

      other_mate : (f.other ≡ p → ⊥) → (family.at_once ≡ true) ⊎ (family.at_once ≡ false) → IsThereFirst plan owner key h
      other_mate ne (inl t) = mate ne f.commit f.made (λ n. absurd (true≢false (sym t ∙ n)))
      other_mate ne (inr n) = let c = with_its_key (f.its_key n) in mate ne c.0 c.1 (λ _. c.2)

      now_there : (f.other ≡ p) ⊎ (f.other ≡ p → ⊥) → is_some (stored plan owner key ((told plan f.moment).done owner)) ≡ true
      now_there (inl e) =
          let a : (told plan before).done p ≡ (told plan f.other_before).done p = subst (λ r. (told plan before).done r ≡ (told plan f.other_before).done r) e f.open_then.unanswered in
          elim (cases_Bool family.at_once) [
            | inl t ↦ by_moment g (sym a ∙ come) ((portable.far g owner key (get_of false (other_apart p away) away)).first t f.commit (lacks f.commit f.made))
            | inr n ↦
                (let same : Get owner f.other_key ≡ Get owner key = same_Some _ _ (sym f.other_is ∙ subst (λ r. next_kind plan (told plan f.other_before) r ≡ kind_at plan p (s.done p)) (sym e) (ap (kind_at plan p) (sym a ∙ come)) ∙ is) in
                subst (λ k. is_some (stored plan owner k ((told plan f.moment).done owner)) ≡ true) (same_key same) (f.its_key n))
          ]
      now_there (inr ne) = by_moment h refl (other_mate ne (cases_Bool family.at_once))

  -- a value is the one that the rules give
  value_is : (u : ℕ) (near : Bool) → (p ≡ owner → ⊥) → same_node plan owner p ≡ near → IsFor plan owner key near → stored plan owner key (s.done owner) ≡ Some u →
      get_sees plan s.done p (s.done p) owner key ≡ Shown u
  value_is u near other here is_for there =
      cond-false _ _ _ (ne_eqb p owner other)
      ∙ ap (λ b. served plan owner b (stored plan owner key (s.done owner))) here
      ∙ ap (served plan owner near) there
      ∙ cond-true _ _ _ (admitted plan past all owner key u near is_for there)

  is_for_here : (p ≡ owner → ⊥) → (near : Bool) → same_node plan owner p ≡ near → IsFor plan owner key near
  is_for_here other true here = (portable.near g owner key (get_of true other here)).scope
  is_for_here other false here = (portable.far g owner key (get_of false other here)).scope

  sees : (a : Answer) (u : ℕ) → get_sees plan s.done p (s.done p) owner key ≡ Shown u → a ≡ Value (record { proc = owner; at = u }) →
      (is_seen (get_sees plan s.done p (s.done p) owner key) ≡ true) × (a ≡ sight_reply owner (get_sees plan s.done p (s.done p) owner key))
  sees a u e said = (ap is_seen e, said ∙ sym (ap (sight_reply owner) e))

  -- the answer to a get is the rules', and by the rules it can come
  pub get_is : (a : Answer) → GetSays family plan before past p owner key a →
      (is_seen (get_sees plan s.done p (s.done p) owner key) ≡ true) × (a ≡ sight_reply owner (get_sees plan s.done p (s.done p) owner key))
  get_is a (own_put u e is_own said) = sees a u (cond-true _ _ _ (eq-eqb p owner e) ∙ ap held is_own) said
  get_is a (value n u other le there said) =
      sees a u (value_is u (same_node plan owner p) other refl (is_for_here other (same_node plan owner p) refl)
      (stored_fixed plan portable.no_rewrite owner key n (s.done owner) le (ap is_some there) ∙ there)) said
  get_is a (outside u other there not_for) =
      absurd (true≢false (sym (admitted plan past all owner key u (same_node plan owner p) (is_for_here other (same_node plan owner p) refl) there) ∙ not_for))
  get_is a (fails_near other here f) = absurd (near_holds other here f)
  get_is a (fails_far away f) = absurd (far_holds away f)

  -- so it is the value that the owner stores in the end
  pub got_value : (a : Answer) → (p ≡ owner → ⊥) → GetSays family plan before past p owner key a → (u : ℕ) × (a ≡ Value (record { proc = owner; at = u }))
      × (stored plan owner key (event_count plan owner) ≡ Some u) × (admits (scope_of plan owner u) (same_node plan owner p) ≡ true)
  got_value a other (own_put u e is_own said) = absurd (other e)
  got_value a other (value n u ne le there said) =
      let within = (sound plan past all).within owner in
      let now = stored_fixed plan portable.no_rewrite owner key n (s.done owner) le (ap is_some there) ∙ there in (
        u,
        said,
        stored_fixed plan portable.no_rewrite owner key n (event_count plan owner) (omega (arith, le, within)) (ap is_some there) ∙ there,
        admitted plan past all owner key u (same_node plan owner p) (is_for_here other (same_node plan owner p) refl) now,
      )
  got_value a other (outside u ne there not_for) =
      absurd (true≢false (sym (admitted plan past all owner key u (same_node plan owner p) (is_for_here other (same_node plan owner p) refl) there) ∙ not_for))
  got_value a other (fails_near ne here f) = absurd (near_holds other here f)
  got_value a other (fails_far away f) = absurd (far_holds away f)
