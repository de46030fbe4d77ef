-- Without some whole fences a plan has less order, and the same deliveries.
use Rattle.std.proofs.Common.{◌≡◌, ℕ, zero, suc, ◌<◌, ◌≤◌, List, Bool, true, false, ◌==◌, ◌||◌, nat_le, Option, Some, None, is_some, inl, inr, refl, sym, ap, ◌∙◌, subst, arith, le-leb, leb-true}
use Rattle.std.specs.Prelude.{if◌then◌else◌, bytes_eq as same_members}
use Rattle.std.specs.List.{list_any}
use Rattle.std.proofs.lemmas.Bool.{cond-true, cond-false, cond_both, cases_Bool, cases_eq, cases_lt, true≢false, false_from_ne_true}
use Rattle.std.proofs.lemmas.Option.{same_Some}
use Rattle.std.proofs.lemmas.Slice.Eq.{bytes_eq-Decides}
use Rattle.wire_types.specs.declared.Reply.{Reply}
use Rattle.wire_runs.specs.Plan.{Plan, Event, Kind, Arrive, Leave, Get, Fixed}
use Rattle.wire_runs.specs.Plan.{kind_at, kind, event_count, node_of, same_node, admits}
use Rattle.wire_runs.specs.Puts.{own_with, own, stored_with, stored, put_count_with, put_count, scope_in, scope_of}
use Rattle.wire_runs.specs.Fences.{arrivals_with, arrivals, is_full, is_collecting, has_node}
use Rattle.wire_runs.specs.Names.{is_publish, publishes, takes_name, writes_name, calls_name}
use Rattle.wire_runs.specs.Order.{Stores, IsArrival, PublishesOnce, Edge, Follows, Meets, Feeds, Announces, may_come, Live, live, Before, edge, further}
use Rattle.wire_runs.specs.Races.{Delivery, ByFence, ByGet, IsOf, FenceDelivers, GetDelivers, Delivers, ComesSurely, IsUnordered, IsDeliveryRace, IsSettled}
use Rattle.wire_runs.proofs.Basics.{rises, arrivals_step}
use Rattle.wire_runs.proofs.Lists.{list_all_weaker}
use Rattle.wire_runs.proofs.Due.{live_source}
use Rattle.wire_runs.proofs.Histories.{before_live}
use Rattle.wire_runs.proofs.Arrivals.{left_first, left_full, left_arrived}
use Rattle.wire_runs.proofs.Collecting.{collects_by_all}
use Rattle.wire_runs.proofs.Deliveries.{none_delivers}
use Rattle.wire_order_laws.specs.WholeFences.{IsGone, SaysCollect, IsWithoutAt, Stays, Goes, IsWithoutFences, FewerFencesFind}
use Rattle.wire_order_laws.proofs.Beside.{beside, takes_alike, writes_alike, calls_alike}

-- of the first j fences over a set, how many are left
abbrev left_of : (ℕ → Bool) → ℕ → ℕ
left_of gone zero = 0
left_of gone (suc j) = if gone (suc j) then left_of gone j else suc (left_of gone j)

left_rises : (gone : ℕ → Bool) (i j : ℕ) → i ≤ j → left_of gone i ≤ left_of gone j
left_rises gone = rises (left_of gone) (λ n. cond_both (gone (suc n)) (left_of gone n) (suc (left_of gone n)) (λ m. left_of gone n ≤ m) (λ t. omega arith) (λ f. omega arith))

left_up : (gone : ℕ → Bool) (i j : ℕ) → i < j → gone j ≡ false → left_of gone i < left_of gone j
left_up gone i zero lt stays = absurd (omega (arith, lt))
left_up gone i (suc j) lt stays =
    let up = left_rises gone i j (omega (arith, lt)) in
    let here : left_of gone (suc j) ≡ suc (left_of gone j) = cond-false _ _ _ stays in
    omega (arith, up, here)

-- a fence that is left has a number of its own
left_one : (gone : ℕ → Bool) (i j : ℕ) → gone i ≡ false → gone j ≡ false → left_of gone i ≡ left_of gone j → i ≡ j
left_one gone i j a b same = elim (cases_eq i j) [
  | inl s ↦ s
  | inr ne ↦ absurd (elim (cases_lt i j) [
    | inl lt ↦ (let up = left_up gone i j lt b in omega (arith, up, same))
    | inr ge ↦ (let up = left_up gone j i (omega (arith, ge, ne)) a in omega (arith, up, same))
  ])
]

-- kinds of no fence
abbrev IsOther : Kind → Type 0
IsOther (Arrive members collect) = ⊥
IsOther (Leave members) = ⊥
IsOther (Fixed reply) = ⊥
IsOther _ = Unit {0}

module _ (gone : List ℕ → ℕ → Bool) (bare full : Plan) (less : IsWithoutFences gone bare full) where
  both : (x : Event) (holds : Option Kind → Option Kind → Type 0) → holds None None →
      ((k l : Kind) → kind full x ≡ Some k → kind bare x ≡ Some l → IsWithoutAt gone full x k l → holds (Some k) (Some l)) → holds (kind full x) (kind bare x)
  both = beside full bare (IsWithoutAt gone full) less.counts less.calls

  -- what doesn't tell a call of a fence from one of fixed reply is the same of both
  seen : {A : Type 0} (f : Option Kind → A) → ((members : List ℕ) (collect : Bool) (reply : Reply) → f (Some (Arrive members collect)) ≡ f (Some (Fixed reply))) →
      ((members : List ℕ) (reply : Reply) → f (Some (Leave members)) ≡ f (Some (Fixed reply))) → (x : Event) → f (kind full x) ≡ f (kind bare x)
  seen f arrive leave x = both x (λ o q. f o ≡ f q) refl (λ k l is there at. go k l at)
    where
      quiet : (k : Kind) (reply : Reply) → IsGone gone full x k → f (Some k) ≡ f (Some (Fixed reply))
      quiet (Arrive members collect) reply g = arrive members collect reply
      quiet (Leave members) reply g = leave members reply
      quiet _ reply g = absurd g

      go : (k l : Kind) → IsWithoutAt gone full x k l → f (Some k) ≡ f (Some l)
      go k l (Stays not s) = ap (λ v. f (Some v)) s
      go k l (Goes reply g silent fixed) = quiet k reply g ∙ ap (λ v. f (Some v)) (sym fixed)

  other_there : (x : Event) (m : Kind) → IsOther m → kind full x ≡ Some m → kind bare x ≡ Some m
  other_there x m other = both x (λ o q. o ≡ Some m → q ≡ Some m) (λ h. h) (λ k l is there at h. go k l at (same_Some _ _ h))
    where
      never : (k : Kind) → IsOther k → IsGone gone full x k → ⊥
      never (Arrive members collect) o g = o
      never (Leave members) o g = o
      never _ o g = g

      go : (k l : Kind) → IsWithoutAt gone full x k l → k ≡ m → Some l ≡ Some m
      go k l (Stays not s) h = ap Some (sym s ∙ h)
      go k l (Goes reply g silent fixed) h = absurd (never m other (subst (IsGone gone full x) h g))

  other_back : (x : Event) (m : Kind) → IsOther m → kind bare x ≡ Some m → kind full x ≡ Some m
  other_back x m other = both x (λ o q. q ≡ Some m → o ≡ Some m) (λ h. h) (λ k l is there at h. go k l at (same_Some _ _ h))
    where
      go : (k l : Kind) → IsWithoutAt gone full x k l → l ≡ m → Some k ≡ Some m
      go k l (Stays not s) h = ap Some (s ∙ h)
      go k l (Goes reply g silent fixed) h = absurd (subst IsOther (sym h ∙ fixed) other)

  -- puts, commits and names
  owns_are : (p key n : ℕ) → own full p key n ≡ own bare p key n
  owns_are p key zero = refl
  owns_are p key (suc n) =
      ap (λ v. own_with key n v (kind_at full p n)) (owns_are p key n)
      ∙ seen (own_with key n (own bare p key n)) (λ ms c reply. refl) (λ ms reply. refl) (record { proc = p; at = n })

  stores_are : (p key n : ℕ) → stored full p key n ≡ stored bare p key n
  stores_are p key zero = refl
  stores_are p key (suc n) =
      ap (λ v. stored_with v (stored full p key n) (kind_at full p n)) (owns_are p key n)
      ∙ ap (λ v. stored_with (own bare p key n) v (kind_at full p n)) (stores_are p key n)
      ∙ seen (stored_with (own bare p key n) (stored bare p key n)) (λ ms c reply. refl) (λ ms reply. refl) (record { proc = p; at = n })

  puts_are : (p key n : ℕ) → put_count full p key n ≡ put_count bare p key n
  puts_are p key zero = refl
  puts_are p key (suc n) =
      ap (λ v. put_count_with key v (kind_at full p n)) (puts_are p key n)
      ∙ seen (put_count_with key (put_count bare p key n)) (λ ms c reply. refl) (λ ms reply. refl) (record { proc = p; at = n })

  scopes_are : (p put : ℕ) → scope_of full p put ≡ scope_of bare p put
  scopes_are p put = seen scope_in (λ ms c reply. refl) (λ ms reply. refl) (record { proc = p; at = put })

  puts_end_are : (p key : ℕ) → put_count full p key (event_count full p) ≡ put_count bare p key (event_count bare p)
  puts_end_are p key = puts_are p key (event_count full p) ∙ ap (put_count bare p key) (sym (less.counts p))

  stored_end_are : (p key : ℕ) → stored full p key (event_count full p) ≡ stored bare p key (event_count bare p)
  stored_end_are p key = stores_are p key (event_count full p) ∙ ap (stored bare p key) (sym (less.counts p))

  publishes_are : (p name n : ℕ) → publishes full p name n ≡ publishes bare p name n
  publishes_are p name zero = refl
  publishes_are p name (suc n) =
      ap (λ b. is_publish name (kind_at full p n) || b) (publishes_are p name n)
      ∙ ap (λ b. b || publishes bare p name n) (seen (is_publish name) (λ ms c reply. refl) (λ ms reply. refl) (record { proc = p; at = n }))

  publish_alike : (p name : ℕ) → publishes full p name (event_count full p) ≡ publishes bare p name (event_count bare p)
  publish_alike p name = publishes_are p name (event_count full p) ∙ ap (publishes bare p name) (sym (less.counts p))

  takes_are : (name : ℕ) (x : Event) → takes_name full name x (kind full x) ≡ takes_name bare name x (kind bare x)
  takes_are name x = seen (takes_name full name x) (λ ms c reply. refl) (λ ms reply. refl) x ∙ takes_alike full bare publish_alike name x (kind bare x)

  writes_are : (name : ℕ) (x : Event) → writes_name full name x (kind full x) ≡ writes_name bare name x (kind bare x)
  writes_are name x = seen (writes_name full name x) (λ ms c reply. refl) (λ ms reply. refl) x ∙ writes_alike full bare publish_alike name x (kind bare x)

  calls_are : (name : ℕ) (x : Event) → calls_name full name x (kind full x) ≡ calls_name bare name x (kind bare x)
  calls_are name x = seen (calls_name full name x) (λ ms c reply. refl) (λ ms reply. refl) x ∙ calls_alike full bare publish_alike name x (kind bare x)

  once_there : (x : Event) (name : ℕ) → PublishesOnce full x name → PublishesOnce bare x name
  once_there x name o = record { is = other_there x _ tt o.is; only = λ y is. o.only y (other_back y _ tt is); stays = λ y. sym (takes_are name y) ∙ o.stays y }

  once_back : (x : Event) (name : ℕ) → PublishesOnce bare x name → PublishesOnce full x name
  once_back x name o = record { is = other_back x _ tt o.is; only = λ y is. o.only y (other_there y _ tt is); stays = λ y. takes_are name y ∙ o.stays y }

  stores_there : (x : Event) (key : ℕ) → Stores full x key → Stores bare x key
  stores_there x key s = record {
    nothing_before = sym (stores_are x.proc key x.at) ∙ s.nothing_before;
    something_after = ap is_some (sym (stores_are x.proc key (suc x.at))) ∙ s.something_after;
  }

  stores_back : (x : Event) (key : ℕ) → Stores bare x key → Stores full x key
  stores_back x key s = record {
    nothing_before = stores_are x.proc key x.at ∙ s.nothing_before;
    something_after = ap is_some (stores_are x.proc key (suc x.at)) ∙ s.something_after;
  }

  -- fences: a process arrives at those that are left
  one_more : (p : ℕ) (members : List ℕ) (n : ℕ) → arrivals bare p members n ≡ left_of (gone members) (arrivals full p members n) →
      arrivals bare p members (suc n) ≡ left_of (gone members) (arrivals full p members (suc n))
  one_more p members n ih = both x (λ o q. arrivals_with members here q ≡ left_of (gone members) (arrivals_with members there o)) ih (λ k l is bare_is at. go k l is at)
    where
      x : Event
      x = record { proc = p; at = n }

      here : ℕ
      here = arrivals bare p members n

      there : ℕ
      there = arrivals full p members n

      same : (others : List ℕ) → same_members others members ≡ true → others ≡ members
      same others t = (bytes_eq-Decides others members).0 t

      nth : (others : List ℕ) (collect : Bool) → kind_at full p n ≡ Some (Arrive others collect) → same_members others members ≡ true →
          gone others (arrivals full p others (suc n)) ≡ gone members (suc there)
      nth others collect is t =
          ap (λ ms. gone ms (arrivals full p ms (suc n))) (same others t)
          ∙ ap (gone members) (arrivals_step full p members collect n (subst (λ ms. kind_at full p n ≡ Some (Arrive ms collect)) (same others t) is))

      stays : (k : Kind) → kind_at full p n ≡ Some k → (IsGone gone full x k → ⊥) → arrivals_with members here (Some k) ≡ left_of (gone members) (arrivals_with members there (Some k))
      stays (Arrive others collect) is not = elim (cases_Bool (same_members others members)) [
        | inl t ↦
            cond-true _ _ _ t ∙ ap suc ih ∙ sym (cond-false _ (left_of (gone members) there) (suc (left_of (gone members) there)) (sym (nth others collect is t) ∙ false_from_ne_true _ not))
            ∙ ap (left_of (gone members)) (sym (cond-true _ (suc there) there t))
        | inr f ↦ cond-false _ _ _ f ∙ ih ∙ ap (left_of (gone members)) (sym (cond-false _ (suc there) there f))
      ]
      stays _ is not = ih

      goes : (k : Kind) → kind_at full p n ≡ Some k → IsGone gone full x k → here ≡ left_of (gone members) (arrivals_with members there (Some k))
      goes (Arrive others collect) is g = elim (cases_Bool (same_members others members)) [
        | inl t ↦
            ih ∙ sym (cond-true _ (left_of (gone members) there) (suc (left_of (gone members) there)) (sym (nth others collect is t) ∙ g))
            ∙ ap (left_of (gone members)) (sym (cond-true _ (suc there) there t))
        | inr f ↦ ih ∙ ap (left_of (gone members)) (sym (cond-false _ (suc there) there f))
      ]
      goes _ is g = ih

      go : (k l : Kind) → kind_at full p n ≡ Some k → IsWithoutAt gone full x k l → arrivals_with members here (Some l) ≡ left_of (gone members) (arrivals_with members there (Some k))
      go k l is (Stays not s) = ap (λ v. arrivals_with members here (Some v)) (sym s) ∙ stays k is not
      go k l is (Goes reply g silent fixed) = ap (λ v. arrivals_with members here (Some v)) fixed ∙ goes k is g

  arrivals_left : (p : ℕ) (members : List ℕ) (n : ℕ) → arrivals bare p members n ≡ left_of (gone members) (arrivals full p members n)
  arrivals_left p members zero = refl
  arrivals_left p members (suc n) = one_more p members n (arrivals_left p members n)

  full_there : (members : List ℕ) (j : ℕ) → is_full full members j ≡ true → is_full bare members (left_of (gone members) j) ≡ true
  full_there members j h = list_all_weaker _ _ members (λ m t. le-leb _ _ (
      let up = left_rises (gone members) j (arrivals full m members (event_count full m)) (leb-true _ _ t) in
      let here = arrivals_left m members (event_count bare m) in
      let all : arrivals full m members (event_count bare m) ≡ arrivals full m members (event_count full m) = ap (arrivals full m members) (less.counts m) in
      let same = ap (left_of (gone members)) all in
      omega (arith, up, here, same))) h

  arrive_there : (z : Event) (members : List ℕ) (collect : Bool) → kind full z ≡ Some (Arrive members collect) → gone members (arrivals full z.proc members (suc z.at)) ≡ false → kind bare z ≡ Some (Arrive members collect)
  arrive_there z members collect is stays = both z (λ o q. o ≡ Some (Arrive members collect) → q ≡ Some (Arrive members collect)) (λ h. h) (λ k l there_is bare_is at h. go k l at (same_Some _ _ h)) is
    where
      go : (k l : Kind) → IsWithoutAt gone full z k l → k ≡ Arrive members collect → Some l ≡ Some (Arrive members collect)
      go k l (Stays not s) h = ap Some (sym s ∙ h)
      go k l (Goes reply g silent fixed) h = absurd (true≢false (sym (subst (IsGone gone full z) h g) ∙ stays))

  arrive_back : (z : Event) (members : List ℕ) (collect : Bool) → kind bare z ≡ Some (Arrive members collect) →
      (kind full z ≡ Some (Arrive members collect)) × (gone members (arrivals full z.proc members (suc z.at)) ≡ false)
  arrive_back z members collect = both z (λ o q. q ≡ Some (Arrive members collect) → (o ≡ Some (Arrive members collect)) × (gone members (arrivals full z.proc members (suc z.at)) ≡ false))
      (λ h. absurd (never_none h)) (λ k l there_is bare_is at h. go k l at (same_Some _ _ h))
    where
      never_none : ◌≡◌ {A = Option Kind} None (Some (Arrive members collect)) → ⊥
      never_none h = cc

      go : (k l : Kind) → IsWithoutAt gone full z k l → l ≡ Arrive members collect → (Some k ≡ Some (Arrive members collect)) × (gone members (arrivals full z.proc members (suc z.at)) ≡ false)
      go k l (Stays not s) h = (ap Some (s ∙ h), false_from_ne_true _ (λ t. not (subst (IsGone gone full z) (sym (s ∙ h)) t)))
      go k l (Goes reply g silent fixed) h = absurd (never (sym fixed ∙ h))
        where
          never : Fixed reply ≡ Arrive members collect → ⊥
          never e = cc

  leave_back : (y : Event) (members : List ℕ) → kind bare y ≡ Some (Leave members) → (kind full y ≡ Some (Leave members)) × (gone members (arrivals full y.proc members y.at) ≡ false)
  leave_back y members = both y (λ o q. q ≡ Some (Leave members) → (o ≡ Some (Leave members)) × (gone members (arrivals full y.proc members y.at) ≡ false))
      (λ h. absurd (never_none h)) (λ k l there_is bare_is at h. go k l at (same_Some _ _ h))
    where
      never_none : ◌≡◌ {A = Option Kind} None (Some (Leave members)) → ⊥
      never_none h = cc

      go : (k l : Kind) → IsWithoutAt gone full y k l → l ≡ Leave members → (Some k ≡ Some (Leave members)) × (gone members (arrivals full y.proc members y.at) ≡ false)
      go k l (Stays not s) h = (ap Some (s ∙ h), false_from_ne_true _ (λ t. not (subst (IsGone gone full y) (sym (s ∙ h)) t)))
      go k l (Goes reply g silent fixed) h = absurd (never (sym fixed ∙ h))
        where
          never : Fixed reply ≡ Leave members → ⊥
          never e = cc

  arrival_there : (z : Event) (members : List ℕ) (j : ℕ) → gone members j ≡ false → IsArrival full members j z → IsArrival bare members (left_of (gone members) j) z
  arrival_there z members j stays a = record {
    collect = a.collect;
    is = arrive_there z members a.collect a.is (ap (gone members) a.nth ∙ stays);
    member = a.member;
    nth = arrivals_left z.proc members (suc z.at) ∙ ap (left_of (gone members)) a.nth;
  }

  -- the fence of an arrival in the bare plan, by its number in the full one
  record Fence (members : List ℕ) (i : ℕ) (z : Event) : Type 0 where
    j : ℕ
    nth : left_of (gone members) j ≡ i
    stays : gone members j ≡ false
    arrival : IsArrival full members j z

  fence_of : (z : Event) (members : List ℕ) (i : ℕ) → IsArrival bare members i z → Fence members i z
  fence_of z members i a =
      let b = arrive_back z members a.collect a.is in
      record {
        j = arrivals full z.proc members (suc z.at);
        nth = sym (arrivals_left z.proc members (suc z.at)) ∙ a.nth;
        stays = b.1;
        arrival = record { collect = a.collect; is = b.0; member = a.member; nth = refl };
      }

  arrival_back : (z : Event) (members : List ℕ) (j : ℕ) → gone members j ≡ false → IsArrival bare members (left_of (gone members) j) z → IsArrival full members j z
  arrival_back z members j stays a =
      let f = fence_of z members _ a in
      subst (λ v. IsArrival full members v z) (left_one (gone members) f.j j f.stays stays f.nth) f.arrival

  -- each edge without the fences is one with them
  edge_back : (x y : Event) → Edge bare x y → Edge full x y
  edge_back x y (Follows same next) = Follows same next
  edge_back x y (Meets members is a) =
      let l = leave_back y members is in
      Meets members l.0 (arrival_back x members (arrivals full y.proc members y.at) l.1 (subst (λ v. IsArrival bare members v x) (arrivals_left y.proc members y.at) a))
  edge_back x y (Feeds key is other once stores) = Feeds key (other_back y _ tt is) other (puts_end_are x.proc key ∙ once) (stores_back x key stores)
  edge_back x y (Announces name is once) = Announces name (other_back y _ tt is) (once_back x name once)

  may_there : (y : Event) → may_come full y (kind full y) ≡ true → may_come bare y (kind bare y) ≡ true
  may_there y = both y (λ o q. may_come full y o ≡ true → may_come bare y q ≡ true) (λ h. h) (λ k l is bare_is at h. go k l at h)
    where
      stays : (k : Kind) → may_come full y (Some k) ≡ true → may_come bare y (Some k) ≡ true
      stays (Get owner key) h =
          sym (ap (λ v. if y.proc == owner then is_some v else (is_some (stored full owner key (event_count full owner)) || nat_le 2 (put_count full owner key (event_count full owner)))) (owns_are owner key y.at)
          ∙ ap (λ v. if y.proc == owner then is_some (own bare owner key y.at) else (is_some v || nat_le 2 (put_count full owner key (event_count full owner)))) (stored_end_are owner key)
          ∙ ap (λ v. if y.proc == owner then is_some (own bare owner key y.at) else (is_some (stored bare owner key (event_count bare owner)) || nat_le 2 v)) (puts_end_are owner key)) ∙ h
      stays (Leave members) h = subst (λ j. is_full bare members j ≡ true) (sym (arrivals_left y.proc members y.at)) (full_there members (arrivals full y.proc members y.at) h)
      stays _ h = refl

      go : (k l : Kind) → IsWithoutAt gone full y k l → may_come full y (Some k) ≡ true → may_come bare y (Some l) ≡ true
      go k l (Stays not s) h = ap (λ v. may_come bare y (Some v)) (sym s) ∙ stays k h
      go k l (Goes reply g silent fixed) h = ap (λ v. may_come bare y (Some v)) fixed

  live_there : {y : Event} → Live full y → Live bare y
  live_there {y = y} (live may from) = live (may_there y may) (λ x e. live_there (from x (edge_back x y e)))

  chain_back : {x y : Event} → Before bare x y → Live full y → Before full x y
  chain_back {x = x} {y = y} (edge l e m) alive = (let f = edge_back x y e in edge (live_source alive f) f alive)
  chain_back {y = z} (further {y = y} b e m) alive = (let f = edge_back y z e in further (chain_back b (live_source alive f)) f alive)

  unordered_there : (x y : Event) → IsUnordered full x y → IsUnordered bare x y
  unordered_there x y u = record {
    live_x = live_there u.live_x;
    live_y = live_there u.live_y;
    not_before = λ c. u.not_before (chain_back c u.live_y);
    not_after = λ c. u.not_after (chain_back c u.live_x);
  }

  node_there : (members : List ℕ) (node : ℕ) → has_node full members node ≡ has_node bare members node
  node_there members node = ap (λ f. list_any f members) (λ t m. less.nodes m t == node)

  same_node_there : (p q : ℕ) → same_node bare p q ≡ same_node full p q
  same_node_there p q = ap (λ n. n == node_of bare q) (sym (less.nodes p)) ∙ ap (λ n. node_of full p == n) (sym (less.nodes q))

  -- a fence collects where all that are left of its calls do; and one that collects is left
  collecting_there : (members : List ℕ) (j : ℕ) → gone members j ≡ false → is_collecting full members j ≡ true → is_collecting bare members (left_of (gone members) j) ≡ true
  collecting_there members j stays h = (collects_by_all bare members (left_of (gone members) j)).1 (λ z a. says z a.collect a.is (arrival_back z members j stays a))
    where
      says : (z : Event) (collect : Bool) → kind bare z ≡ Some (Arrive members collect) → IsArrival full members j z → collect ≡ true
      says z collect is a =
          let b = arrive_back z members collect is in
          ap says_in (same_Some _ _ (sym b.0 ∙ a.is)) ∙ (collects_by_all full members j).0 h z a
        where
          says_in : Kind → Bool
          says_in (Arrive ms c) = c
          says_in _ = collect

  collecting_back : (members : List ℕ) (j : ℕ) → gone members j ≡ false → is_collecting bare members (left_of (gone members) j) ≡ true → is_collecting full members j ≡ true
  unfolding arrival_there
  collecting_back members j stays h = (collects_by_all full members j).1 (λ z a. (collects_by_all bare members (left_of (gone members) j)).0 h z (arrival_there z members j stays a))

  is_left : (members : List ℕ) (j : ℕ) (z : Event) → is_collecting full members j ≡ true → IsArrival full members j z → gone members j ≡ false
  is_left members j z h a = false_from_ne_true _ (λ t. go (kind full z) (kind bare z) a.is t)
    where
      go : (o q : Option Kind) → kind full z ≡ Some (Arrive members a.collect) → gone members j ≡ true → ⊥
      go o q is t = both z (λ o q. o ≡ Some (Arrive members a.collect) → ⊥) (λ e. never_none e) (λ k l there_is bare_is at e. case k l at (same_Some _ _ e)) is
        where
          never_none : ◌≡◌ {A = Option Kind} None (Some (Arrive members a.collect)) → ⊥
          never_none e = cc

          here : gone members (arrivals full z.proc members (suc z.at)) ≡ true
          here = ap (gone members) a.nth ∙ t

          case : (k l : Kind) → IsWithoutAt gone full z k l → k ≡ Arrive members a.collect → ⊥
          case k l (Stays not s) e = not (subst (IsGone gone full z) (sym e) here)
          case k l (Goes reply g silent fixed) e = silent (subst SaysCollect (sym e) ((collects_by_all full members j).0 h z a))

  -- a get-now that is live in the full plan
  module _ (owner key : ℕ) (get : Event) (live_get : Live full get) where
    sure_back : ComesSurely bare owner key (node_of bare get.proc) get → ComesSurely full owner key (node_of full get.proc) get
    sure_back s = go s.delivery s.delivers s.all_before
      where
        go : (d : Delivery) → Delivers bare owner key (node_of bare get.proc) d → ((z : Event) → IsOf bare d z → Before bare z get) → ComesSurely full owner key (node_of full get.proc) get
        go (ByGet g) d before =
            let by : GetDelivers bare owner key (node_of bare get.proc) g = d.brings_it in
            let chain = chain_back (before g refl) live_get in
            record {
              delivery = ByGet g;
              delivers = record {
                brings_it = record {
                  away = record {
                    keeps = less.keeps ∙ by.away.keeps;
                    is = other_back g _ tt by.away.is;
                    put = by.away.put;
                    committed = stored_end_are owner key ∙ by.away.committed;
                    admitted = ap (λ s. admits s false) (scopes_are owner by.away.put) ∙ by.away.admitted;
                  };
                  there = less.nodes g.proc ∙ by.there ∙ sym (less.nodes get.proc);
                };
                all_live = λ z o. subst (λ v. Live full v) (sym o) (before_live chain);
              };
              all_before = λ z o. subst (λ v. Before full v get) (sym o) chain;
            }
        go (ByFence members i) d before =
            let by : FenceDelivers bare owner key (node_of bare get.proc) members i = d.brings_it in
            let mine : Event = record { proc = owner; at = by.away.at } in
            let f = fence_of mine members i by.away.arrival in
            let chain = chain_back (before mine by.away.arrival) live_get in
            let left = left_first members f.j f.arrival chain in
            record {
              delivery = ByFence members f.j;
              delivers = record {
                brings_it = record {
                  away = record {
                    full = left_full full members f.j get left;
                    collecting = collecting_back members f.j f.stays (subst (λ v. is_collecting bare members v ≡ true) (sym f.nth) by.away.collecting);
                    member = by.away.member;
                    at = by.away.at;
                    put = by.away.put;
                    arrival = f.arrival;
                    committed = stores_are owner key by.away.at ∙ by.away.committed;
                    admitted = ap (λ s. admits s false) (scopes_are owner by.away.put) ∙ by.away.admitted;
                  };
                  reaches = node_there members (node_of full get.proc) ∙ subst (λ n. has_node bare members n ≡ true) (sym (less.nodes get.proc)) by.reaches;
                };
                all_live = λ z a. before_live (left_arrived full members f.j get left z a);
              };
              all_before = left_arrived full members f.j get left;
            }

    -- a delivery of the full plan is one of the bare plan
    record Found (d : Delivery) : Type 0 where
      delivery : Delivery
      delivers : Delivers bare owner key (node_of bare get.proc) delivery
      back : (z : Event) → IsOf bare delivery z → IsOf full d z

    found : (d : Delivery) → Delivers full owner key (node_of full get.proc) d → Found d
    found (ByGet g) d =
        let by : GetDelivers full owner key (node_of full get.proc) g = d.brings_it in
        record {
          delivery = ByGet g;
          delivers = record {
            brings_it = record {
              away = record {
                keeps = sym less.keeps ∙ by.away.keeps;
                is = other_there g _ tt by.away.is;
                put = by.away.put;
                committed = sym (stored_end_are owner key) ∙ by.away.committed;
                admitted = ap (λ s. admits s false) (sym (scopes_are owner by.away.put)) ∙ by.away.admitted;
              };
              there = sym (less.nodes g.proc) ∙ by.there ∙ less.nodes get.proc;
            };
            all_live = λ z o. live_there (d.all_live z o);
          };
          back = λ z o. o;
        }
    found (ByFence members j) d =
        let by : FenceDelivers full owner key (node_of full get.proc) members j = d.brings_it in
        let mine : Event = record { proc = owner; at = by.away.at } in
        let stays = is_left members j mine by.away.collecting by.away.arrival in
        record {
          delivery = ByFence members (left_of (gone members) j);
          delivers = record {
            brings_it = record {
              away = record {
                full = full_there members j by.away.full;
                collecting = collecting_there members j stays by.away.collecting;
                member = by.away.member;
                at = by.away.at;
                put = by.away.put;
                arrival = arrival_there mine members j stays by.away.arrival;
                committed = sym (stores_are owner key by.away.at) ∙ by.away.committed;
                admitted = ap (λ s. admits s false) (sym (scopes_are owner by.away.put)) ∙ by.away.admitted;
              };
              reaches = subst (λ n. has_node bare members n ≡ true) (less.nodes get.proc) (sym (node_there members (node_of full get.proc)) ∙ by.reaches);
            };
            all_live = λ z o. live_there (d.all_live z (arrival_back z members j stays o));
          };
          back = λ z o. arrival_back z members j stays o;
        }

  delivery_race : (source get : Event) (owner key : ℕ) → IsDeliveryRace full source get owner key → IsSettled bare → ⊥
  delivery_race source get owner key r settled =
      let f = found owner key get r.get_live r.delivery r.delivers in
      none_delivers bare settled get owner key (other_there get _ tt r.is) (live_there r.get_live) (same_node_there owner get.proc ∙ r.other) (sym (puts_end_are owner key) ∙ r.once)
      (λ s. r.not_sure (sure_back owner key get r.get_live s)) f.delivery f.delivers
      (λ z o c. r.before_none z (f.back z o) (chain_back c (r.delivers.all_live z (f.back z o))))

  settled_full : IsSettled bare → IsSettled full
  settled_full settled = record {
    no_rewrite = λ x y r. settled.no_rewrite x y (record {
      key = r.key;
      first_scope = r.first_scope;
      later_scope = r.later_scope;
      first_is = other_there x _ tt r.first_is;
      later_is = other_there y _ tt r.later_is;
      first = sym (owns_are x.proc r.key x.at) ∙ r.first;
      same = r.same;
      later = r.later;
    });
    no_node_race = λ c g key r. settled.no_node_race c g key (record {
      near = record {
        is = other_there g _ tt r.near.is;
        another = r.near.another;
        once = sym (puts_end_are c.proc key) ∙ r.near.once;
        stores = stores_there c key r.near.stores;
        unordered = unordered_there c g r.near.unordered;
      };
      node = same_node_there c.proc g.proc ∙ r.node;
    });
    no_delivery_race = λ source get owner key r. delivery_race source get owner key r settled;
    no_name_race = λ x y name r. settled.no_name_race x y name (record {
      x_writes = sym (writes_are name x) ∙ r.x_writes;
      y_calls = sym (calls_are name y) ∙ r.y_calls;
      others = r.others;
      not_once = λ once is. r.not_once (once_back x name once) (other_back y _ tt is);
      unordered = unordered_there x y r.unordered;
    });
  }

pub fewer_fences_find : FewerFencesFind
fewer_fences_find gone bare full less = settled_full gone bare full less
