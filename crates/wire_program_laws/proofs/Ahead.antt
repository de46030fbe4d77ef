-- A step doesn't look ahead: where two plans have the same events so far, what a step does is the same in both.
use Rattle.std.proofs.Common.{◌≡◌, ℕ, zero, suc, ◌<◌, ◌≤◌, List, [], ◌∷◌, ◌++◌, Bool, true, false, ◌&&◌, ◌==◌, Option, Some, None, inl, inr, refl, sym, ap, ◌∙◌, subst, arith}
use Rattle.std.proofs.Common.{eq-eqb, ne_eqb, leb-true, nat_le}
use Rattle.std.specs.Prelude.{slice_get, if◌then◌else◌}
use Rattle.std.specs.List.{list_all, list_any}
use Rattle.std.proofs.lemmas.Option.{none-some}
use Rattle.std.proofs.lemmas.Bool.{cond-true, cond-false, cond_both, cases_eq, cases_Bool, and_parts, and_right, or_left, or_right}
use Rattle.std.specs.Prelude.{bytes_eq as same_members}
use Rattle.wire_runs.specs.Plan.{Plan, Kind, Put, Commit, Arrive, Leave, Get, GetNow}
use Rattle.wire_runs.specs.Plan.{kind_at, event_count, process_count, node_of, same_node, admits, update}
use Rattle.wire_runs.specs.State.{State, next_event, next_kind}
use Rattle.wire_runs.specs.Puts.{own_with, own, stored_with, stored, scope_in, scope_of}
use Rattle.wire_runs.specs.Fences.{arrivals_with, arrivals, is_member, is_complete, collects_with, collects, is_collecting, has_node}
use Rattle.wire_runs.specs.Sight.{Outside, Shown, held, served, for_others, has_brought, stored_at_with, delivered_with, delivered, get_sees, greater, greatest, got_with, got, got_on, kept, brought, get_now_sees}
use Rattle.wire_runs.specs.Step.{is_seen, may_do, sight_reply, reply, is_enabled, name_after, step}
use Rattle.wire_runs.proofs.Basics.{list_all_at_member, arrivals_rise, arrivals_step}
use Rattle.wire_runs.proofs.Brought.{bringer}
use Rattle.wire_program_laws.specs.Runs.{IsSameHead}

-- two tests that agree on a list's elements
list_all_same : (f g : ℕ → Bool) (xs : List ℕ) → ((m : ℕ) → is_member xs m ≡ true → f m ≡ g m) → list_all f xs ≡ list_all g xs
list_all_same f g [] same = refl
list_all_same f g (x ∷ xs) same =
    ap (λ b. b && list_all f xs) (same x (or_left _ _ (eq-eqb x x refl))) ∙ ap (λ b. g x && b) (list_all_same f g xs (λ m i. same m (or_right _ _ i)))

greatest_same : (f g : ℕ → Option ℕ) (n : ℕ) → ((i : ℕ) → i < n → f i ≡ g i) → greatest f n ≡ greatest g n
greatest_same f g zero same = refl
greatest_same f g (suc n) same =
    ap (λ o. greater o (f n)) (greatest_same f g n (λ i lt. same i (omega (arith, lt)))) ∙ ap (greater (greatest g n)) (same n (omega arith))

-- the number of a put that a rank has made is below the number of its events so far
own_below_with : (key n : ℕ) (before : Option ℕ) (o : Option Kind) (u : ℕ) → (before ≡ Some u → u < n) → own_with key n before o ≡ Some u → u < suc n
own_below_with key n before (Some (Put k scope)) u low =
    cond_both (k == key) (Some n) before (λ v. v ≡ Some u → u < suc n)
    (λ t h. let e : n ≡ u = some_same n u h in omega (arith, e))
    (λ f h. let l = low h in omega (arith, l))
  where
    some_same : (x y : ℕ) → Some x ≡ Some y → x ≡ y
    some_same x y h = cc
own_below_with key n before _ u low = λ h. let l = low h in omega (arith, l)

pub own_below : (plan : Plan) (p key n u : ℕ) → own plan p key n ≡ Some u → u < n
own_below plan p key zero u h = absurd (none-some u h)
own_below plan p key (suc n) u h = own_below_with key n (own plan p key n) (kind_at plan p n) u (own_below plan p key n u) h

stored_below_with : (committed before : Option ℕ) (o : Option Kind) (n u : ℕ) → (committed ≡ Some u → u < n) → (before ≡ Some u → u < n) → stored_with committed before o ≡ Some u → u < suc n
stored_below_with committed before (Some Commit) n u a b = λ h. let l = a h in omega (arith, l)
stored_below_with committed before _ n u a b = λ h. let l = b h in omega (arith, l)

pub stored_below : (plan : Plan) (p key n u : ℕ) → stored plan p key n ≡ Some u → u < n
stored_below plan p key zero u h = absurd (none-some u h)
stored_below plan p key (suc n) u h =
    stored_below_with (own plan p key n) (stored plan p key n) (kind_at plan p n) n u (own_below plan p key n u) (stored_below plan p key n u) h

-- a call of a fence that comes later says nothing of an earlier one
later_call : (members : List ℕ) (j n : ℕ) (before : Bool) (o : Option Kind) → j ≤ n → collects_with members j n before o ≡ before
later_call members j n before (Some (Arrive others collect)) past =
    let not_nth : suc n ≡ j → ⊥ = λ e. absurd (omega (arith, e, past)) in
    cond-false _ _ _ (and_right (same_members others members) (suc n == j) (ne_eqb (suc n) j not_nth))
later_call members j n before _ past = refl

collects_on : (plan : Plan) (m : ℕ) (members : List ℕ) (j n k : ℕ) → j ≤ arrivals plan m members n → n ≤ k → collects plan m members j k ≡ collects plan m members j n
collects_on plan m members j n zero there le = let e : n ≡ 0 = omega arith in ap (collects plan m members j) (sym e)
collects_on plan m members j n (suc k) there le = elim (cases_eq n (suc k)) [
  | inl e ↦ ap (collects plan m members j) (sym e)
  | inr ne ↦
      (let up = arrivals_rise plan m members n k (omega (arith, le, ne)) in
      later_call members j (arrivals plan m members k) (collects plan m members j k) (kind_at plan m k) (omega (arith, up, there))
      ∙ collects_on plan m members j n k there (omega (arith, le, ne)))
]

-- what a fence has brought, it brought by an arrival that is in the cut
not_brought : (plan : Plan) (cut : ℕ → ℕ) (p node n : ℕ) (members : List ℕ) (collect : Bool) → cut p ≤ n → kind_at plan p n ≡ Some (Arrive members collect) →
    has_brought plan cut p node members (arrivals plan p members (suc n)) ≡ false
not_brought plan cut p node n members collect past is = elim (cases_Bool (has_brought plan cut p node members (arrivals plan p members (suc n)))) [
  | inr f ↦ f
  | inl t ↦ absurd (too_late (arrives t) (arrivals_rise plan p members (cut p) n past) (arrivals_step plan p members collect n is))
]
  where
    arrives : has_brought plan cut p node members (arrivals plan p members (suc n)) ≡ true → arrivals plan p members (suc n) ≤ arrivals plan p members (cut p)
    arrives t =
        let parts = and_parts (is_complete plan cut members (arrivals plan p members (suc n))) _ t in
        let member = and_parts (is_member members p) (has_node plan members node) (and_parts (is_collecting plan members (arrivals plan p members (suc n))) _ parts.1).1 in
        leb-true (arrivals plan p members (suc n)) (arrivals plan p members (cut p))
        (list_all_at_member (λ m. nat_le (arrivals plan p members (suc n)) (arrivals plan m members (cut m))) members p parts.0 member.0)

    too_late : arrivals plan p members (suc n) ≤ arrivals plan p members (cut p) → arrivals plan p members (cut p) ≤ arrivals plan p members n
        → arrivals plan p members (suc n) ≡ suc (arrivals plan p members n) → ⊥
    too_late there up one = omega (arith, there, up, one)

pub delivered_on : (plan : Plan) (cut : ℕ → ℕ) (p node key k : ℕ) → cut p ≤ k → delivered plan cut p node key k ≡ delivered plan cut p node key (cut p)
delivered_on plan cut p node key zero le = let e : cut p ≡ 0 = omega arith in ap (delivered plan cut p node key) (sym e)
delivered_on plan cut p node key (suc k) le = elim (cases_eq (cut p) (suc k)) [
  | inl e ↦ ap (delivered plan cut p node key) (sym e)
  | inr ne ↦ (let past : cut p ≤ k = omega (arith, le, ne) in nothing (kind_at plan p k) refl past ∙ delivered_on plan cut p node key k past)
]
  where
    nothing : (o : Option Kind) → kind_at plan p k ≡ o → cut p ≤ k →
        delivered_with plan cut p node key k (delivered plan cut p node key k) o ≡ delivered plan cut p node key k
    nothing (Some (Arrive members collect)) e past =
        ap (λ b. stored_at_with b (stored plan p key k) (delivered plan cut p node key k)) (not_brought plan cut p node k members collect past e)
    nothing _ e past = refl

module _ (a b : Plan) (head : IsSameHead a b) (s : State) (within_a : (p : ℕ) → s.done p ≤ event_count a p) (within_b : (p : ℕ) → s.done p ≤ event_count b p)
    (same : (p i : ℕ) → i < s.done p → kind_at a p i ≡ kind_at b p i) where
  own_same : (p key n : ℕ) → n ≤ s.done p → own a p key n ≡ own b p key n
  own_same p key zero le = refl
  own_same p key (suc n) le =
      ap (λ o. own_with key n o (kind_at a p n)) (own_same p key n (omega (arith, le))) ∙ ap (own_with key n (own b p key n)) (same p n (omega (arith, le)))

  stored_same : (p key n : ℕ) → n ≤ s.done p → stored a p key n ≡ stored b p key n
  stored_same p key zero le = refl
  stored_same p key (suc n) le =
      ap (λ o. stored_with o (stored a p key n) (kind_at a p n)) (own_same p key n (omega (arith, le)))
      ∙ ap (λ o. stored_with (own b p key n) o (kind_at a p n)) (stored_same p key n (omega (arith, le)))
      ∙ ap (stored_with (own b p key n) (stored b p key n)) (same p n (omega (arith, le)))

  pub arrivals_same : (p : ℕ) (members : List ℕ) (n : ℕ) → n ≤ s.done p → arrivals a p members n ≡ arrivals b p members n
  arrivals_same p members zero le = refl
  arrivals_same p members (suc n) le =
      ap (λ k. arrivals_with members k (kind_at a p n)) (arrivals_same p members n (omega (arith, le)))
      ∙ ap (arrivals_with members (arrivals b p members n)) (same p n (omega (arith, le)))

  collects_same : (p : ℕ) (members : List ℕ) (j n : ℕ) → n ≤ s.done p → collects a p members j n ≡ collects b p members j n
  collects_same p members j zero le = refl
  collects_same p members j (suc n) le =
      ap (λ k. collects_with members j k (collects a p members j n) (kind_at a p n)) (arrivals_same p members n (omega (arith, le)))
      ∙ ap (λ c. collects_with members j (arrivals b p members n) c (kind_at a p n)) (collects_same p members j n (omega (arith, le)))
      ∙ ap (collects_with members j (arrivals b p members n) (collects b p members j n)) (same p n (omega (arith, le)))

  complete_same : (members : List ℕ) (j : ℕ) → is_complete a s.done members j ≡ is_complete b s.done members j
  complete_same members j = list_all_same _ _ members (λ m _. ap (nat_le j) (arrivals_same m members (s.done m) (omega arith)))

  collecting_same : (members : List ℕ) (j : ℕ) → is_complete a s.done members j ≡ true → is_collecting a members j ≡ is_collecting b members j
  collecting_same members j all = list_all_same _ _ members (λ m i.
      let there = leb-true _ _ (list_all_at_member _ members m all i) in
      let count = arrivals_same m members (s.done m) (omega arith) in
      collects_on a m members j (s.done m) (event_count a m) there (within_a m)
      ∙ collects_same m members j (s.done m) (omega arith)
      ∙ sym (collects_on b m members j (s.done m) (event_count b m) (omega (arith, there, count)) (within_b m)))

  node_same : (members : List ℕ) (node : ℕ) → has_node a members node ≡ has_node b members node
  node_same members node = λ t. list_any (λ m. head.nodes m t == node) members

  brought_same : (p node : ℕ) (members : List ℕ) (j : ℕ) → has_brought a s.done p node members j ≡ has_brought b s.done p node members j
  brought_same p node members j = elim (cases_Bool (is_complete a s.done members j)) [
    | inl t ↦
        ap (λ c. c && (is_collecting a members j && (is_member members p && has_node a members node))) (complete_same members j)
        ∙ ap (λ c. is_complete b s.done members j && (c && (is_member members p && has_node a members node))) (collecting_same members j t)
        ∙ ap (λ c. is_complete b s.done members j && (is_collecting b members j && (is_member members p && c))) (node_same members node)
    | inr f ↦
        ap (λ c. c && (is_collecting a members j && (is_member members p && has_node a members node))) f
        ∙ ap (λ c. c && (is_collecting b members j && (is_member members p && has_node b members node))) (sym f ∙ complete_same members j)
  ]

  delivered_same : (p node key n : ℕ) → n ≤ s.done p → delivered a s.done p node key n ≡ delivered b s.done p node key n
  delivered_same p node key zero le = refl
  delivered_same p node key (suc n) le =
      ap (delivered_with a s.done p node key n (delivered a s.done p node key n)) (same p n (omega (arith, le)))
      ∙ ap (λ o. delivered_with a s.done p node key n o (kind_at b p n)) (delivered_same p node key n (omega (arith, le)))
      ∙ here (kind_at b p n)
    where
      here : (o : Option Kind) → delivered_with a s.done p node key n (delivered b s.done p node key n) o ≡ delivered_with b s.done p node key n (delivered b s.done p node key n) o
      here (Some (Arrive members collect)) =
          ap (λ c. stored_at_with c (stored a p key n) (delivered b s.done p node key n))
          (ap (has_brought a s.done p node members) (arrivals_same p members (suc n) le) ∙ brought_same p node members (arrivals b p members (suc n)))
          ∙ ap (λ o. stored_at_with (has_brought b s.done p node members (arrivals b p members (suc n))) o (delivered b s.done p node key n)) (stored_same p key n (omega (arith, le)))
      here _ = refl

  scope_same : (p u : ℕ) → u < s.done p → scope_of a p u ≡ scope_of b p u
  scope_same p u lt = ap scope_in (same p u lt)

  served_at : (p u : ℕ) (near : Bool) → u < s.done p → served a p near (Some u) ≡ served b p near (Some u)
  served_at p u near lt = λ t. if admits (scope_same p u lt t) near then Shown u else Outside

  served_same : (p key : ℕ) (near : Bool) → served a p near (stored a p key (s.done p)) ≡ served b p near (stored b p key (s.done p))
  served_same p key near = ap (served a p near) (stored_same p key (s.done p) (omega arith)) ∙ go (stored b p key (s.done p)) refl
    where
      go : (o : Option ℕ) → stored b p key (s.done p) ≡ o → served a p near o ≡ served b p near o
      go None e = refl
      go (Some u) e = served_at p u near (stored_below b p key (s.done p) u e)

  near_same : (p q : ℕ) → same_node a p q ≡ same_node b p q
  near_same p q = λ t. head.nodes p t == head.nodes q t

  get_same : (q p key : ℕ) → get_sees a s.done q (s.done q) p key ≡ get_sees b s.done q (s.done q) p key
  get_same q p key = elim (cases_eq q p) [
    | inl e ↦
        cond-true _ _ _ (eq-eqb q p e)
        ∙ ap held (own_same p key (s.done q) (subst (λ r. s.done q ≤ s.done r) e (omega arith)))
        ∙ sym (cond-true _ _ _ (eq-eqb q p e))
    | inr ne ↦
        cond-false _ _ _ (ne_eqb q p ne)
        ∙ ap (λ near. served a p near (stored a p key (s.done p))) (near_same p q)
        ∙ served_same p key (same_node b p q)
        ∙ sym (cond-false _ _ _ (ne_eqb q p ne))
  ]

  got_same : (p key m i : ℕ) → i < s.done m → got a s p key m i ≡ got b s p key m i
  got_same p key m i lt = ap (λ o. got_with p key o (slice_get (s.replies m) i)) (same m i lt)

  got_on_same : (p key node m : ℕ) → got_on a s p key node m ≡ got_on b s p key node m
  got_on_same p key node m =
      ap (λ k. if k == node then greatest (got a s p key m) (s.done m) else None) (head.nodes m)
      ∙ ap (λ o. if node_of b m == node then o else None) (greatest_same _ _ (s.done m) (got_same p key m))

  kept_same : (p key node : ℕ) → kept a s p key node ≡ kept b s p key node
  kept_same p key node =
      ap (λ c. if c then greatest (got_on a s p key node) (process_count a) else None) head.keep
      ∙ ap (λ n. if b.keep then greatest (got_on a s p key node) n else None) head.count
      ∙ ap (λ o. if b.keep then o else None) (greatest_same _ _ (process_count b) (λ m _. got_on_same p key node m))

  -- what fences have brought
  fences_same : (p key node : ℕ) → for_others a p (delivered a s.done p node key (event_count a p)) ≡ for_others b p (delivered b s.done p node key (event_count b p))
  fences_same p key node =
      ap (for_others a p) (delivered_on a s.done p node key (event_count a p) (within_a p) ∙ delivered_same p node key (s.done p) (omega arith))
      ∙ go (delivered b s.done p node key (s.done p)) refl
      ∙ ap (for_others b p) (sym (delivered_on b s.done p node key (event_count b p) (within_b p)))
    where
      go : (o : Option ℕ) → delivered b s.done p node key (s.done p) ≡ o → for_others a p o ≡ for_others b p o
      go None e = refl
      go (Some u) e =
          let by = bringer b s.done p node key (s.done p) u e in
          let low = stored_below b p key by.at u by.stored_is in
          let there = by.below in
          let lt : u < s.done p = omega (arith, low, there) in
          λ t. if admits (scope_same p u lt t) false then Some u else None

  brings_same : (p key node : ℕ) → brought a s p key node ≡ brought b s p key node
  brings_same p key node = ap (λ o. greater o (kept a s p key node)) (fences_same p key node) ∙ ap (greater (for_others b p (delivered b s.done p node key (event_count b p)))) (kept_same p key node)

  get_now_same : (q p key : ℕ) → get_now_sees a s q (s.done q) p key ≡ get_now_sees b s q (s.done q) p key
  get_now_same q p key = elim (cases_eq q p) [
    | inl e ↦
        cond-true _ _ _ (eq-eqb q p e)
        ∙ ap held (own_same p key (s.done q) (subst (λ r. s.done q ≤ s.done r) e (omega arith)))
        ∙ sym (cond-true _ _ _ (eq-eqb q p e))
    | inr ne ↦ cond-false _ _ _ (ne_eqb q p ne) ∙ elsewhere ∙ sym (cond-false _ _ _ (ne_eqb q p ne))
  ]
    where
      elsewhere : (if same_node a p q then served a p true (stored a p key (s.done p)) else held (brought a s p key (node_of a q)))
          ≡ (if same_node b p q then served b p true (stored b p key (s.done p)) else held (brought b s p key (node_of b q)))
      elsewhere =
          ap (λ near. if near then served a p true (stored a p key (s.done p)) else held (brought a s p key (node_of a q))) (near_same p q)
          ∙ ap (λ o. if same_node b p q then o else held (brought a s p key (node_of a q))) (served_same p key true)
          ∙ ap (λ o. if same_node b p q then served b p true (stored b p key (s.done p)) else held o) (ap (brought a s p key) (head.nodes q) ∙ brings_same p key (node_of b q))

  may_same : (p : ℕ) (o : Option Kind) → may_do a s (next_event s p) o ≡ may_do b s (next_event s p) o
  may_same p (Some (Get owner key)) = ap is_seen (get_same p owner key)
  may_same p (Some (Leave members)) =
      ap (is_complete a s.done members) (arrivals_same p members (s.done p) (omega arith)) ∙ complete_same members (arrivals b p members (s.done p))
  may_same p _ = refl

  reply_same : (p : ℕ) (o : Option Kind) → reply a s (next_event s p) o ≡ reply b s (next_event s p) o
  reply_same p (Some (Get owner key)) = ap (sight_reply owner) (get_same p owner key)
  reply_same p (Some (GetNow owner key)) = ap (sight_reply owner) (get_now_same p owner key)
  reply_same p _ = refl

  -- the same next event can happen in both, or in none, and does the same
  pub enabled_same : (p : ℕ) → next_kind a s p ≡ next_kind b s p → is_enabled a s p ≡ is_enabled b s p
  enabled_same p is = ap (may_do a s (next_event s p)) is ∙ may_same p (next_kind b s p)

  pub step_same : (p : ℕ) → next_kind a s p ≡ next_kind b s p → step a s p ≡ step b s p
  step_same p is = λ t. record {
    done = update s.done p (suc (s.done p));
    names = λ n. name_after (s.names n) (next_event s p) (is t) n;
    replies = update s.replies p (s.replies p ++ (ap (reply a s (next_event s p)) is ∙ reply_same p (next_kind b s p)) t ∷ []);
  }
