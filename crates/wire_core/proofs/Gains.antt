-- What a step brings to a node.
use Rattle.std.proofs.Common.{◌≡◌, ◌≢◌, ◌∙◌, ap, sym, refl, subst, ℕ, zero, suc, ◌+◌, ◌<◌, ◌≤◌, [], ◌∷◌, length}
use Rattle.std.proofs.Common.{Bool, true, false, cond, ◌&&◌, nat_eq, Option, Some, None, is_some, arith, inl, inr}
use Rattle.std.proofs.Common.{eq-eqb, ne_eqb, eqb-true}
use Rattle.std.specs.Prelude.{slice_get, IfSome}
use Rattle.std.specs.HashMap.{spare}
use Rattle.std.proofs.lemmas.Bool.{cond-true, cond-false, cond_both, cases_Bool, cases_eq, ltb-true, ltb-false, and_parts, and_from, true≢false}
use Rattle.std.proofs.lemmas.Option.{same_Some}
use Rattle.wire_runs.specs.Plan.{Plan, Kind, Get, Event, kind, kind_at, event_total, process_count, node_of, same_node, admits}
use Rattle.wire_runs.specs.Puts.{stored, scope_of}
use Rattle.wire_runs.specs.State.{State, start, next_event, next_kind}
use Rattle.wire_runs.specs.Sight.{Sight, Nothing, Outside, Shown, served, for_others, greater, greatest, got_with, got, got_on, kept, get_sees}
use Rattle.wire_runs.specs.Step.{sight_reply, reply, step}
use Rattle.wire_runs.proofs.Due.{done_same, done_other, done_up}
use Rattle.wire_runs.proofs.Known.{replies_same, replies_other, reply_now}
use Rattle.wire_runs.proofs.Lists.{slice_get-append_left, one_longer}
use Rattle.wire_core.specs.Met.{stored_at}
use Rattle.wire_core.specs.declared.keeping.Gain.{Gain}
use Rattle.wire_core.specs.declared.keeping.Keeping.{Keeping}
use Rattle.wire_core.specs.Keeping.{is_same, count_in, count_after, GetGains, IsGain, IsKeeping, is_later}
use Rattle.wire_core.proofs.LastPuts.{IsUpTo, stored_up, greater_first, greater_second, greatest_same, greatest_grown}

-- what q's next event brings of p's key to the node
abbrev gained : Plan → State → ℕ → ℕ → ℕ → ℕ → Option ℕ
gained plan s q p key node =
    cond (nat_eq (node_of plan q) node) (got_with p key (next_kind plan s q) (Some (reply plan s (next_event s q) (next_kind plan s q)))) None

module _ (plan : Plan) (s : State) (q : ℕ) (lengths : (p : ℕ) → length (s.replies p) ≡ s.done p) where
  reply_was : (m i : ℕ) → i < s.done m → slice_get ((step plan s q).replies m) i ≡ slice_get (s.replies m) i
  reply_was m i lt = elim (cases_eq m q) [
    | inl e ↦ subst (λ k. slice_get ((step plan s q).replies k) i ≡ slice_get (s.replies k) i) (sym e)
        (ap (λ xs. slice_get xs i) (replies_same plan s q)
        ∙ slice_get-append_left (s.replies q) (reply plan s (next_event s q) (kind plan (next_event s q)) ∷ []) i
        (let l = lengths q in let low = subst (λ k. i < s.done k) e lt in omega (arith, l, low)))
    | inr ne ↦ ap (λ xs. slice_get xs i) (replies_other plan s q m ne)
  ]

  got_was : (p key m i : ℕ) → i < s.done m → got plan (step plan s q) p key m i ≡ got plan s p key m i
  got_was p key m i lt = ap (got_with p key (kind_at plan m i)) (reply_was m i lt)

  on_other : (p key node m : ℕ) → (m ≡ q → ⊥) → got_on plan (step plan s q) p key node m ≡ got_on plan s p key node m
  on_other p key node m ne = ap (λ o. cond (nat_eq (node_of plan m) node) o None)
      (ap (greatest (got plan (step plan s q) p key m)) (done_other plan s q m ne) ∙ greatest_same (got plan s p key m) (got plan (step plan s q) p key m) (s.done m) (λ i lt. got_was p key m i lt))

  on_one : (p key node : ℕ) → got_on plan (step plan s q) p key node q ≡ greater (got_on plan s p key node q) (gained plan s q p key node)
  on_one p key node = elim (cases_Bool (nat_eq (node_of plan q) node)) [
    | inr f ↦ cond-false _ _ _ f ∙ sym (ap (λ o. greater o (gained plan s q p key node)) (cond-false _ _ _ f) ∙ ap (greater None) (cond-false _ _ _ f))
    | inl t ↦
        cond-true _ _ _ t
        ∙ ap (greatest (got plan (step plan s q) p key q)) (done_same plan s q)
        ∙ ap (λ o. greater o (got plan (step plan s q) p key q (s.done q))) (greatest_same (got plan s p key q) (got plan (step plan s q) p key q) (s.done q) (λ i lt. got_was p key q i lt))
        ∙ ap (λ o. greater (greatest (got plan s p key q) (s.done q)) (got_with p key (kind_at plan q (s.done q)) o)) (reply_now plan s q (lengths q))
        ∙ sym (ap (λ o. greater o (gained plan s q p key node)) (cond-true (nat_eq (node_of plan q) node) (greatest (got plan s p key q) (s.done q)) None t)
        ∙ ap (greater (greatest (got plan s p key q) (s.done q)))
        (cond-true (nat_eq (node_of plan q) node) (got_with p key (next_kind plan s q) (Some (reply plan s (next_event s q) (next_kind plan s q)))) None t))
  ]

  -- what is kept after the step
  pub kept_step : q < process_count plan → (p key node : ℕ) → kept plan (step plan s q) p key node ≡ cond plan.keep (greater (kept plan s p key node) (gained plan s q p key node)) None
  kept_step within p key node = elim (cases_Bool plan.keep) [
    | inr f ↦ cond-false _ _ _ f ∙ sym (cond-false _ _ _ f)
    | inl t ↦
        cond-true _ _ _ t
        ∙ greatest_grown (got_on plan s p key node) (got_on plan (step plan s q) p key node) q (gained plan s q p key node) (process_count plan) within (λ m ne. on_other p key node m ne)
        (on_one p key node)
        ∙ sym (cond-true _ _ _ t ∙ ap (λ o. greater o (gained plan s q p key node)) (cond-true plan.keep (greatest (got_on plan s p key node) (process_count plan)) None t))
  ]

-- a get that sees no value brings nothing, nor does an event of another kind
sight_gives : (p key owner k : ℕ) (sight : Sight) → ((put : ℕ) → sight ≡ Shown put → ⊥) → got_with p key (Some (Get owner k)) (Some (sight_reply owner sight)) ≡ None
sight_gives p key owner k Nothing never = refl
sight_gives p key owner k Outside never = refl
sight_gives p key owner k (Shown put) never = absurd (never put refl)

other_gives : (p key owner k put : ℕ) → (owner ≡ p → k ≡ key → ⊥) → got_with p key (Some (Get owner k)) (Some (sight_reply owner (Shown put))) ≡ None
other_gives p key owner k put other = cond_both (nat_eq owner p && nat_eq k key) (Some put) None (λ o. o ≡ None)
    (λ t. let b = and_parts _ _ t in absurd (other (eqb-true owner p b.0) (eqb-true k key b.1)))
    (λ f. refl)

no_gain : (plan : Plan) (s : State) (x : Event) (p key : ℕ) (o : Option Kind) → ((owner k put : ℕ) → o ≡ Some (Get owner k) → get_sees plan s.done x.proc x.at owner k ≡ Shown put → ⊥) →
    got_with p key o (Some (reply plan s x o)) ≡ None
no_gain plan s x p key (Some (Get owner k)) never = sight_gives p key owner k (get_sees plan s.done x.proc x.at owner k) (λ put e. never owner k put refl e)
no_gain plan s x p key _ never = refl

served_value : (plan : Plan) (p put : ℕ) (same : Bool) (o : Option ℕ) → served plan p same o ≡ Shown put → (o ≡ Some put) × (admits (scope_of plan p put) same ≡ true)
served_value plan p put same None = λ h. cc
served_value plan p put same (Some v) = elim (cases_Bool (admits (scope_of plan p v) same)) [
  | inl a ↦ (λ h.
      let e : Shown v ≡ Shown put = sym (cond-true _ _ _ a) ∙ h in
      let is : v ≡ put = same_put e in
      (ap Some is, subst (λ i. admits (scope_of plan p i) same ≡ true) is a))
  | inr f ↦ (λ h. let e : Outside ≡ Shown put = sym (cond-false _ _ _ f) ∙ h in cc)
]
  where
    put_in : Sight → ℕ
    put_in (Shown n) = n
    put_in _ = 0

    same_put : {v w : ℕ} → Shown v ≡ Shown w → v ≡ w
    same_put e = ap put_in e

not_same : (a b : ℕ × ℕ × ℕ) → is_same a b ≡ false → a.0 ≡ b.0 → a.1 ≡ b.1 → a.2 ≡ b.2 → ⊥
not_same a b f e g h = true≢false (sym (and_from _ _ (and_from _ _ (eq-eqb _ _ e) (eq-eqb _ _ g)) (eq-eqb _ _ h)) ∙ f)

module _ (plan : Plan) (s : State) (q steps : ℕ) (old new : Keeping) (found : Option Gain) (within : q < process_count plan) (k : IsKeeping plan s steps old)
    (counts : (p key node : ℕ) → count_in new p key node ≡ count_after found p key node (count_in old p key node)) (room : spare old.counts ≤ spare new.counts + 1) where
  lengths_now : (p : ℕ) → length ((step plan s q).replies p) ≡ (step plan s q).done p
  lengths_now p = elim (cases_eq p q) [
    | inl e ↦ subst (λ m. length ((step plan s q).replies m) ≡ (step plan s q).done m) (sym e)
        (ap length (replies_same plan s q) ∙ one_longer (s.replies q) (reply plan s (next_event s q) (kind plan (next_event s q))) ∙ ap suc (k.lengths q) ∙ sym (done_same plan s q))
    | inr ne ↦ ap length (replies_other plan s q p ne) ∙ k.lengths p ∙ sym (done_other plan s q p ne)
  ]

  room_now : plan.keep ≡ true → event_total plan ≤ suc steps + spare new.counts
  room_now t = let was = k.room t in omega (arith, was, room)

  -- where nothing more came of a key to a node
  same_kept : (p key node : ℕ) → gained plan s q p key node ≡ None → kept plan (step plan s q) p key node ≡ kept plan s p key node
  same_kept p key node none = kept_step plan s q k.lengths within p key node ∙ elim (cases_Bool plan.keep) [
    | inl t ↦ cond-true _ _ _ t ∙ ap (greater (kept plan s p key node)) none
    | inr f ↦ cond-false _ _ _ f ∙ sym (cond-false plan.keep (greatest (got_on plan s p key node) (process_count plan)) None f)
  ]

  rises : (p n : ℕ) → n ≤ s.done p → n ≤ (step plan s q).done p
  rises p n le = let up = done_up plan s q p in omega (arith, le, up)

  gained_none : (p key node : ℕ) → got_with p key (next_kind plan s q) (Some (reply plan s (next_event s q) (next_kind plan s q))) ≡ None → gained plan s q p key node ≡ None
  gained_none p key node none = cond_both (nat_eq (node_of plan q) node) (got_with p key (next_kind plan s q) (Some (reply plan s (next_event s q) (next_kind plan s q)))) None (λ o. o ≡ None)
      (λ t. none) (λ f. refl)

  -- nothing came at all
  module _ (none : found ≡ None) (never : (p key put : ℕ) → plan.keep ≡ true → next_kind plan s q ≡ Some (Get p key) → get_sees plan s.done q (s.done q) p key ≡ Shown put → ⊥) where
    still : (p key node : ℕ) → kept plan (step plan s q) p key node ≡ kept plan s p key node
    still p key node = elim (cases_Bool plan.keep) [
      | inl t ↦ same_kept p key node (gained_none p key node (no_gain plan s (next_event s q) p key (next_kind plan s q) (λ owner key' put is sees. never owner key' put t is sees)))
      | inr f ↦ cond-false plan.keep (greatest (got_on plan (step plan s q) p key node) (process_count plan)) None f
          ∙ sym (cond-false plan.keep (greatest (got_on plan s p key node) (process_count plan)) None f)
    ]

    pub keeping_still : IsKeeping plan (step plan s q) (suc steps) new
    keeping_still = record {
      told = λ p key node away. ap (stored_at plan p key) (counts p key node ∙ ap (λ o. count_after o p key node (count_in old p key node)) none) ∙ k.told p key node away ∙ sym (still p key node);
      done = λ p key node n is. rises p n (k.done p key node n (sym (counts p key node ∙ ap (λ o. count_after o p key node (count_in old p key node)) none) ∙ is));
      admitted = λ p key node u away is. k.admitted p key node u away (sym (still p key node) ∙ is);
      lengths = lengths_now;
      room = room_now;
    }

  -- a get brought this
  module _ (gain : Gain) (some : found ≡ Some gain) (g : GetGains plan s q gain) where
    said : reply plan s (next_event s q) (next_kind plan s q) ≡ sight_reply gain.owner.number (Shown g.put)
    said = ap (reply plan s (next_event s q)) g.is ∙ ap (sight_reply gain.owner.number) g.sees

    got_now : (p key : ℕ) → got_with p key (next_kind plan s q) (Some (reply plan s (next_event s q) (next_kind plan s q)))
        ≡ got_with p key (Some (Get gain.owner.number gain.key)) (Some (sight_reply gain.owner.number (Shown g.put)))
    got_now p key = ap (λ o. got_with p key o (Some (reply plan s (next_event s q) (next_kind plan s q)))) g.is
        ∙ ap (λ a. got_with p key (Some (Get gain.owner.number gain.key)) (Some a)) said

    others : (p key node : ℕ) → is_same (gain.owner.number, gain.key, gain.node) (p, key, node) ≡ false → kept plan (step plan s q) p key node ≡ kept plan s p key node
    others p key node f = same_kept p key node (elim (cases_eq (node_of plan q) node) [
      | inr ne ↦ cond-false _ _ _ (ne_eqb _ _ ne)
      | inl e ↦ gained_none p key node (got_now p key ∙ other_gives p key gain.owner.number gain.key g.put
          (λ a b. not_same (gain.owner.number, gain.key, gain.node) (p, key, node) f a b (g.there ∙ e)))
    ])

    module _ (away : node_of plan gain.owner.number ≢ gain.node) where
      apart : q ≡ gain.owner.number → ⊥
      apart e = away (ap (node_of plan) (sym e) ∙ sym g.there)

      other_node : same_node plan gain.owner.number q ≡ false
      other_node = ne_eqb _ _ (λ e. away (e ∙ sym g.there))

      shown : served plan gain.owner.number false (stored plan gain.owner.number gain.key (s.done gain.owner.number)) ≡ Shown g.put
      shown = sym (cond-false _ _ _ (ne_eqb q gain.owner.number apart)
          ∙ ap (λ b. served plan gain.owner.number b (stored plan gain.owner.number gain.key (s.done gain.owner.number))) other_node) ∙ g.sees

      value : (stored plan gain.owner.number gain.key (s.done gain.owner.number) ≡ Some g.put) × (admits (scope_of plan gain.owner.number g.put) false ≡ true)
      value = served_value plan gain.owner.number g.put false (stored plan gain.owner.number gain.key (s.done gain.owner.number)) shown

      was_up_to : (o : Option ℕ) → ((n : ℕ) → o ≡ Some n → n ≤ s.done gain.owner.number) → IsUpTo (stored_at plan gain.owner.number gain.key o) (Some g.put)
      was_up_to None below = tt
      was_up_to (Some n) below = subst (IsUpTo (stored plan gain.owner.number gain.key n)) value.0
          (stored_up plan gain.owner.number gain.key n (s.done gain.owner.number) (below n refl))

      now_kept : kept plan (step plan s q) gain.owner.number gain.key gain.node ≡ Some g.put
      now_kept =
          kept_step plan s q k.lengths within gain.owner.number gain.key gain.node
          ∙ cond-true _ _ _ g.keeps
          ∙ ap (greater (kept plan s gain.owner.number gain.key gain.node))
          (cond-true (nat_eq (node_of plan q) gain.node) _ None (eq-eqb _ _ (sym g.there)) ∙ got_now gain.owner.number gain.key
          ∙ cond-true _ _ _ (and_from _ _ (eq-eqb gain.owner.number gain.owner.number refl) (eq-eqb gain.key gain.key refl)))
          ∙ greater_second (kept plan s gain.owner.number gain.key gain.node) (Some g.put) (subst (λ o. IsUpTo o (Some g.put)) (k.told gain.owner.number gain.key gain.node away)
          (was_up_to (count_in old gain.owner.number gain.key gain.node) (λ n is. k.done gain.owner.number gain.key gain.node n is)))

    abbrev Tells : ℕ → ℕ → ℕ → Type 0
    Tells p key node =
        (node_of plan p ≢ node → stored_at plan p key (count_in new p key node) ≡ kept plan (step plan s q) p key node)
        × ((n : ℕ) → count_in new p key node ≡ Some n → n ≤ (step plan s q).done p)
        × ((u : ℕ) → node_of plan p ≢ node → kept plan (step plan s q) p key node ≡ Some u → admits (scope_of plan p u) false ≡ true)

    count_is : (p key node : ℕ) → count_in new p key node ≡ cond (is_same (gain.owner.number, gain.key, gain.node) (p, key, node)) (Some gain.done) (count_in old p key node)
    count_is p key node = counts p key node ∙ ap (λ o. count_after o p key node (count_in old p key node)) some

    tells_here : Tells gain.owner.number gain.key gain.node
    tells_here =
        let p = gain.owner.number in
        let same : is_same (gain.owner.number, gain.key, gain.node) (p, gain.key, gain.node) ≡ true =
        and_from _ _ (and_from _ _ (eq-eqb p p refl) (eq-eqb gain.key gain.key refl)) (eq-eqb gain.node gain.node refl) in
        let count : count_in new p gain.key gain.node ≡ Some (s.done p) = count_is p gain.key gain.node ∙ cond-true _ _ _ same ∙ ap Some g.count in (
          λ away. ap (stored_at plan p gain.key) count ∙ (value away).0 ∙ sym (now_kept away),
          λ n is. let e : s.done p ≡ n = same_Some _ _ (sym count ∙ is) in rises p n (omega (arith, e)),
          λ u away is. subst (λ i. admits (scope_of plan p i) false ≡ true) (same_Some g.put u (sym (now_kept away) ∙ is)) (value away).1,
        )

    tells : (p key node : ℕ) → Tells p key node
    tells p key node = elim (cases_Bool (is_same (gain.owner.number, gain.key, gain.node) (p, key, node))) [
      | inl t ↦
          (let b = and_parts _ _ t in
          let c = and_parts _ _ b.0 in
          let e = eqb-true _ _ c.0 in
          let f = eqb-true _ _ c.1 in
          let h = eqb-true _ _ b.1 in
          subst (λ (x : ℕ × ℕ × ℕ). Tells x.0 x.1 x.2) (λ i. (e i, f i, h i)) tells_here)
      | inr f ↦ (
          let same = others p key node f in
          let count : count_in new p key node ≡ count_in old p key node = count_is p key node ∙ cond-false _ _ _ f in (
            λ away. ap (stored_at plan p key) count ∙ k.told p key node away ∙ sym same,
            λ n is. rises p n (k.done p key node n (sym count ∙ is)),
            λ u away is. k.admitted p key node u away (sym same ∙ is),
          ))
    ]

    pub keeping_more : IsKeeping plan (step plan s q) (suc steps) new
    keeping_more = record {
      told = λ p key node away. (tells p key node).0 away;
      done = λ p key node n is. (tells p key node).1 n is;
      admitted = λ p key node u away is. (tells p key node).2 u away is;
      lengths = lengths_now;
      room = room_now;
    }

pub keeping_step : (plan : Plan) (s : State) (q steps : ℕ) (old new : Keeping) (found : Option Gain) → q < process_count plan → IsKeeping plan s steps old → IsGain plan s q found →
    ((p key node : ℕ) → count_in new p key node ≡ count_after found p key node (count_in old p key node)) → spare old.counts ≤ spare new.counts + 1 → IsKeeping plan (step plan s q) (suc steps) new
keeping_step plan s q steps old new None within k gain counts room = keeping_still plan s q steps old new None within k counts room refl gain
keeping_step plan s q steps old new (Some g) within k gain counts room = keeping_more plan s q steps old new (Some g) within k counts room g refl gain

-- what a get brings has room
pub gain_room : (plan : Plan) (s : State) (q steps : ℕ) (old : Keeping) (gain : Gain) → IsKeeping plan s steps old → GetGains plan s q gain → steps < event_total plan → 0 < spare old.counts
gain_room plan s q steps old gain k g lt = let room = k.room g.keeps in omega (arith, room, lt)

pub gains_room : (plan : Plan) (s : State) (q steps : ℕ) (old : Keeping) (found : Option Gain) → IsKeeping plan s steps old → IsGain plan s q found → steps < event_total plan →
    IfSome found (λ _. 0 < spare old.counts)
gains_room plan s q steps old None k gain lt = tt
gains_room plan s q steps old (Some g) k gain lt = gain_room plan s q steps old g k gain lt

-- nothing was brought at the start
nobody_got : (plan : Plan) (p key node n : ℕ) → greatest (got_on plan start p key node) n ≡ None
nobody_got plan p key node zero = refl
nobody_got plan p key node (suc n) = ap (λ o. greater o (got_on plan start p key node n)) (nobody_got plan p key node n)
    ∙ ap (greater None) (cond_both (nat_eq (node_of plan n) node) None None (λ o. o ≡ None) (λ t. refl) (λ f. refl))

kept_first : (plan : Plan) (p key node : ℕ) → kept plan start p key node ≡ None
kept_first plan p key node = cond_both plan.keep (greatest (got_on plan start p key node) (process_count plan)) None (λ o. o ≡ None) (λ t. nobody_got plan p key node (process_count plan)) (λ f. refl)

pub keeping_first : (plan : Plan) (keeping : Keeping) → ((p key node : ℕ) → count_in keeping p key node ≡ None) → (plan.keep ≡ true → event_total plan ≤ spare keeping.counts) →
    IsKeeping plan start 0 keeping
keeping_first plan keeping none room = record {
  told = λ p key node away. ap (stored_at plan p key) (none p key node) ∙ sym (kept_first plan p key node);
  done = λ p key node n is. (let e : None ≡ Some n = sym (none p key node) ∙ is in cc);
  admitted = λ p key node u away is. (let e : None ≡ Some u = sym (kept_first plan p key node) ∙ is in cc);
  lengths = λ p. refl;
  room = λ t. let enough = room t in omega (arith, enough);
}

-- of what fences and gets have brought the newer is shown
module _ (plan : Plan) (p key : ℕ) (arrival count k : Option ℕ) (told : stored_at plan p key count ≡ k) (admitted : (u : ℕ) → k ≡ Some u → admits (scope_of plan p u) false ≡ true) where
  abbrev pub fence : Option ℕ
  fence = for_others plan p (stored_at plan p key arrival)

  others_same : (o : Option ℕ) → ((u : ℕ) → o ≡ Some u → admits (scope_of plan p u) false ≡ true) → for_others plan p o ≡ o
  others_same None all = refl
  others_same (Some u) all = cond-true _ _ _ (all u refl)

  -- what a fence has brought of a later event is no earlier put
  from_fence : (o : Option ℕ) → is_some (for_others plan p o) ≡ true → for_others plan p o ≡ o
  from_fence None h = refl
  from_fence (Some u) h = cond_both (admits (scope_of plan p u) false) (Some u) None (λ v. is_some v ≡ true → v ≡ Some u) (λ t g. refl) (λ f g. absurd (true≢false (sym g))) h

  later_up : (a c : Option ℕ) → is_later a c ≡ true → IsUpTo (stored_at plan p key c) (stored_at plan p key a)
  later_up None c h = absurd (true≢false (sym h))
  later_up (Some at) None h = tt
  later_up (Some at) (Some n) h = stored_up plan p key n at (let lt = ltb-true n at h in omega (arith, lt))

  earlier_up : (a c : Option ℕ) → is_later a c ≡ false → IsUpTo (stored_at plan p key a) (stored_at plan p key c)
  earlier_up None c h = tt
  earlier_up (Some at) None h = absurd (true≢false h)
  earlier_up (Some at) (Some n) h = stored_up plan p key at n (ltb-false n at h)

  pub fence_newer : is_some fence ≡ true → is_later arrival count ≡ true → fence ≡ greater fence k
  fence_newer some later =
      let is = from_fence (stored_at plan p key arrival) some in
      sym (greater_first fence k (subst (λ o. IsUpTo o fence) told (subst (IsUpTo (stored_at plan p key count)) (sym is) (later_up arrival count later))))

  pub gets_newer : (is_some fence ≡ true → is_later arrival count ≡ false) → for_others plan p (stored_at plan p key count) ≡ greater fence k
  gets_newer earlier = ap (for_others plan p) told ∙ others_same k admitted ∙ elim (cases_Bool (is_some fence)) [
    | inl t ↦
        (let is = from_fence (stored_at plan p key arrival) t in
        sym (greater_second fence k (subst (IsUpTo fence) told (subst (λ o. IsUpTo o (stored_at plan p key count)) (sym is) (earlier_up arrival count (earlier t))))))
    | inr f ↦ sym (ap (λ o. greater o k) (none_of fence f) ∙ nothing_else k)
  ]
    where
      none_of : (o : Option ℕ) → is_some o ≡ false → o ≡ None
      none_of None h = refl
      none_of (Some u) h = absurd (true≢false h)

      nothing_else : (o : Option ℕ) → greater None o ≡ o
      nothing_else None = refl
      nothing_else (Some u) = refl
