-- What gets have got on a portable plan, and what that and fences have brought to a node.
use Rattle.std.proofs.Common.{◌≡◌, ℕ, zero, suc, List, [], ◌∷◌, ◌++◌, true, Option, Some, None, is_some, ◌⊎◌, inl, inr, refl, sym, ap, ◌∙◌, subst, arith, length}
use Rattle.std.specs.Prelude.{slice_get}
use Rattle.std.proofs.lemmas.List.{length_push}
use Rattle.std.proofs.lemmas.Option.{same_Some}
use Rattle.std.proofs.lemmas.Bool.{cond-true, cases_eq, cases_lt, cases_Bool, true≢false}
use Rattle.wire_runs.specs.Plan.{Plan, Kind, Arrive, Get, kind, kind_at, event_count, node_of, same_node, admits, Event}
use Rattle.wire_runs.specs.State.{Answer, Value, State, next_kind, IsDone}
use Rattle.wire_runs.specs.Puts.{stored, scope_of}
use Rattle.wire_runs.specs.Fences.{arrivals}
use Rattle.wire_runs.specs.Sight.{served, for_others, has_brought, stored_at_with, delivered_with, delivered, kept, brought}
use Rattle.wire_runs.specs.Step.{sight_reply}
use Rattle.wire_runs.specs.Races.{IsRewrite}
use Rattle.wire_runs.proofs.Basics.{update_same, update_other}
use Rattle.wire_runs.proofs.Due.{place_path}
use Rattle.wire_runs.proofs.Lists.{slice_get_push_kept, slice_get_push_last}
use Rattle.wire_runs.proofs.Brought.{Bringer}
use Rattle.wire_runs.proofs.Getters.{greater_left, greater_right, Answered, kept_some, answered_value}
use Rattle.wire_runs.proofs.Came.{Came, by_fence, by_get, came}
use Rattle.wire_library_laws.specs.Library.{Family, Words, Moment, Asks, Says, told, MaySay, CanCome, says, IsLibraryRun}
use Rattle.wire_library_laws.specs.Portable.{IsPortable}
use Rattle.wire_library_laws.proofs.Stored.{stored_fixed}
use Rattle.wire_library_laws.proofs.Past.{AllByRules}
use Rattle.wire_library_laws.proofs.Gets.{got_value}

-- each get of another's key that is done has got the value that its owner stores in the end
abbrev pub Got : Plan → State → Type 0
Got plan s =
    (z : Event) (t key : ℕ) → IsDone s z → kind plan z ≡ Some (Get t key) → (z.proc ≡ t → ⊥) → (u : ℕ) × (slice_get (s.replies z.proc) z.at ≡ Some (Value (record { proc = t; at = u })))
    × (stored plan t key (event_count plan t) ≡ Some u) × (admits (scope_of plan t u) (same_node plan t z.proc) ≡ true)

pub answered_of : (plan : Plan) (s : State) → Got plan s → Answered plan s
answered_of plan s got z t key d is other =
    let g = got z t key d is other in
    g.1 ∙ ap Some (sym (ap (λ o. sight_reply t (served plan t (same_node plan t z.proc) o)) g.2 ∙ ap (sight_reply t) (cond-true _ _ _ g.3)))

-- one reply for each event
lengths : (plan : Plan) (h : List Moment) (p : ℕ) → length ((told plan h).replies p) ≡ (told plan h).done p
lengths plan [] p = refl
lengths plan (Asks q ∷ past) p = lengths plan past p
lengths plan (Says q a ∷ past) p = go (cases_eq p q) (lengths plan past p)
  where
    go : (p ≡ q) ⊎ (p ≡ q → ⊥) → length ((told plan past).replies p) ≡ (told plan past).done p → length ((told plan (Says q a ∷ past)).replies p) ≡ (told plan (Says q a ∷ past)).done p
    go (inl e) ih =
        let r : (told plan (Says q a ∷ past)).replies p ≡ (told plan past).replies p ++ a ∷ [] =
        subst (λ x. (told plan (Says q a ∷ past)).replies x ≡ (told plan past).replies x ++ a ∷ []) (sym e) (update_same (told plan past).replies q ((told plan past).replies q ++ a ∷ [])) in
        let d : (told plan (Says q a ∷ past)).done p ≡ suc ((told plan past).done p) =
        subst (λ x. (told plan (Says q a ∷ past)).done x ≡ suc ((told plan past).done x)) (sym e) (update_same (told plan past).done q (suc ((told plan past).done q))) in
        let l = length_push ((told plan past).replies p) a in
        ap length r ∙ omega (arith, l, ih, d)
    go (inr ne) ih =
        ap length (update_other (told plan past).replies q ((told plan past).replies q ++ a ∷ []) p ne) ∙ ih
        ∙ sym (update_other (told plan past).done q (suc ((told plan past).done q)) p ne)

module _ (family : Family) (words : Words) (plan : Plan) (portable : IsPortable family words plan) where
  -- what a get of another's key is answered
  said_value : (past : List Moment) (q : ℕ) (a : Answer) → AllByRules plan past → CanCome family words plan past (Says q a) → (t key : ℕ) → next_kind plan (told plan past) q ≡ Some (Get t key) →
      (q ≡ t → ⊥) → (u : ℕ) × (a ≡ Value (record { proc = t; at = u })) × (stored plan t key (event_count plan t) ≡ Some u) × (admits (scope_of plan t u) (same_node plan t q) ≡ true)
  said_value past q a all (says before k k_is opened said) t key is_get other =
      let same : k ≡ Get t key = same_Some _ _ (sym k_is ∙ is_get) in
      got_value family words plan portable before past all q opened t key is_get a other (subst (MaySay family words plan before past q a) same said)

  module _ (past : List Moment) (q : ℕ) (a : Answer) (all : AllByRules plan past) (can : CanCome family words plan past (Says q a)) (z : Event) (t key : ℕ)
      (d : IsDone (told plan (Says q a ∷ past)) z) (is : kind plan z ≡ Some (Get t key)) (other : z.proc ≡ t → ⊥) where
    abbrev s : State
    s = told plan past

    abbrev now : State
    now = told plan (Says q a ∷ past)

    abbrev Has : Type 0
    Has = (u : ℕ) × (slice_get (now.replies z.proc) z.at ≡ Some (Value (record { proc = t; at = u }))) × (stored plan t key (event_count plan t) ≡ Some u)
        × (admits (scope_of plan t u) (same_node plan t z.proc) ≡ true)

    last : z.proc ≡ q → z.at ≡ s.done q → Has
    last e at =
        let is_next : next_kind plan s q ≡ Some (Get t key) = subst (λ x. kind plan x ≡ Some (Get t key)) (place_path z q (s.done q) e at) is in
        let v = said_value past q a all can t key is_next (λ f. other (e ∙ f)) in
        let here : now.replies z.proc ≡ s.replies q ++ a ∷ [] = ap now.replies e ∙ update_same s.replies q (s.replies q ++ a ∷ []) in
        let len = lengths plan past q in (
          v.0,
          ap (λ xs. slice_get xs z.at) here ∙ ap (slice_get (s.replies q ++ a ∷ [])) (at ∙ sym len) ∙ slice_get_push_last (s.replies q) a ∙ ap Some v.1,
          v.2,
          subst (λ r. admits (scope_of plan t v.0) (same_node plan t r) ≡ true) (sym e) v.3,
        )

    got_more : Got plan s → Has
    got_more ih = elim (cases_eq z.proc q) [
      | inl e ↦ elim (cases_lt z.at (s.done q)) [
        | inl old ↦
            (let same : s.done z.proc ≡ s.done q = ap s.done e in
            let v = ih z t key (omega (arith, old, same)) is other in
            let here : now.replies z.proc ≡ s.replies z.proc ++ a ∷ [] =
            ap now.replies e ∙ update_same s.replies q (s.replies q ++ a ∷ []) ∙ sym (ap (λ r. s.replies r ++ a ∷ []) e) in
            (v.0, ap (λ xs. slice_get xs z.at) here ∙ slice_get_push_kept (s.replies z.proc) a z.at _ v.1, v.2, v.3))
        | inr ge ↦
            (let up : now.done z.proc ≡ suc (s.done q) = ap now.done e ∙ update_same s.done q (suc (s.done q)) in
            last e (omega (arith, ge, d, up)))
      ]
      | inr ne ↦
          (let same = update_other s.done q (suc (s.done q)) z.proc ne in
          let v = ih z t key (omega (arith, d, same)) is other in
          (v.0, ap (λ xs. slice_get xs z.at) (update_other s.replies q (s.replies q ++ a ∷ []) z.proc ne) ∙ v.1, v.2, v.3))
    ]

  pub got_all : (h : List Moment) → AllByRules plan h → IsLibraryRun family words plan h → Got plan (told plan h)
  got_all [] all run_ z t key d is other = absurd (omega (arith, d))
  got_all (Asks q ∷ past) all run_ z t key d is other = got_all past all.1 run_.1 z t key d is other
  got_all (Says q a ∷ past) all run_ z t key d is other = got_more past q a all.1 run_.0 z t key d is other (got_all past all.1 run_.1)

module _ (plan : Plan) (no_rewrite : (x y : Event) → IsRewrite plan x y → ⊥) where
  -- what some fence brought stays
  delivered_from : (cut : ℕ → ℕ) (t node key n u : ℕ) → Bringer plan cut t node key n u → delivered plan cut t node key n ≡ Some u
  delivered_from cut t node key zero u b = let l = b.below in absurd (omega (arith, l))
  delivered_from cut t node key (suc n) u b = elim (cases_eq b.at n) [
    | inl e ↦
        let is : kind_at plan t n ≡ Some (Arrive b.members b.collect) = subst (λ m. kind_at plan t m ≡ Some (Arrive b.members b.collect)) e b.is in
        let br : has_brought plan cut t node b.members (arrivals plan t b.members (suc n)) ≡ true = subst (λ m. has_brought plan cut t node b.members (arrivals plan t b.members (suc m)) ≡ true) e
        b.brings_it in
        let st : stored plan t key n ≡ Some u = subst (λ m. stored plan t key m ≡ Some u) e b.stored_is in
        ap (delivered_with plan cut t node key n (delivered plan cut t node key n)) is ∙ ap (λ v. stored_at_with v (stored plan t key n) (delivered plan cut t node key n)) br ∙ st
    | inr ne ↦
        let l = b.below in
        let rest : Bringer plan cut t node key n u = record {
          at = b.at;
          members = b.members;
          collect = b.collect;
          is = b.is;
          brings_it = b.brings_it;
          stored_is = b.stored_is;
          below = omega (arith, l, ne);
        } in
        let same = stored_fixed plan no_rewrite t key b.at n (omega (arith, l, ne)) (ap is_some b.stored_is) ∙ b.stored_is in
        go (kind_at plan t n) (delivered_from cut t node key n u rest) same
  ]
    where
      go : (o : Option Kind) → delivered plan cut t node key n ≡ Some u → stored plan t key n ≡ Some u → delivered_with plan cut t node key n (delivered plan cut t node key n) o ≡ Some u
      go (Some (Arrive members collect)) d st = elim (cases_Bool (has_brought plan cut t node members (arrivals plan t members (suc n)))) [
        | inl b ↦ ap (λ v. stored_at_with v (stored plan t key n) (delivered plan cut t node key n)) b ∙ st
        | inr b ↦ ap (λ v. stored_at_with v (stored plan t key n) (delivered plan cut t node key n)) b ∙ d
      ]
      go _ d st = d

  module _ (s : State) (answered : Answered plan s) (t key node : ℕ) (away : node_of plan t ≡ node → ⊥) where
    -- whatever came is what its owner stores in the end
    came_value : (u : ℕ) → Came plan s t key node u → stored plan t key (event_count plan t) ≡ Some u
    came_value u (by_fence b a) = stored_fixed plan no_rewrite t key b.at (event_count plan t) (let l = b.below in omega (arith, l)) (ap is_some b.stored_is) ∙ b.stored_is
    came_value u (by_get keeps g) = (answered_value plan s answered t key node u away g).0

    came_some : (u : ℕ) → Came plan s t key node u → is_some (brought plan s t key node) ≡ true
    came_some u (by_fence b a) =
        greater_left (for_others plan t (delivered plan s.done t node key (event_count plan t))) (kept plan s t key node)
        (ap is_some (ap (for_others plan t) (delivered_from s.done t node key (event_count plan t) u b) ∙ cond-true _ _ _ a))
    came_some u (by_get keeps g) = greater_right (for_others plan t (delivered plan s.done t node key (event_count plan t))) (kept plan s t key node) (kept_some plan s t key node u keeps g)

    pub came_is : (u : ℕ) × Came plan s t key node u → (v : ℕ) × (brought plan s t key node ≡ Some v) × (stored plan t key (event_count plan t) ≡ Some v)
    came_is c = go (brought plan s t key node) refl (came_some c.0 c.1)
      where
        go : (o : Option ℕ) → brought plan s t key node ≡ o → is_some o ≡ true → (v : ℕ) × (brought plan s t key node ≡ Some v) × (stored plan t key (event_count plan t) ≡ Some v)
        go None e h = absurd (true≢false (sym h))
        go (Some v) e h = (v, e, came_value v (came plan s t key node v e))
