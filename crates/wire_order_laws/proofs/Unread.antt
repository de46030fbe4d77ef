-- A bare plan agrees with the full one in all that findings rest on; and a plan that has no call that can race has none.
use Rattle.std.proofs.Common.{◌≡◌, ℕ, zero, suc, List, Bool, true, false, ◌==◌, ◌||◌, nat_le, Option, Some, None, is_some, ◌⊎◌, inl, inr, refl, sym, ap, ◌∙◌, subst, arith, eqb-true, ne_eqb}
use Rattle.std.specs.Prelude.{if◌then◌else◌}
use Rattle.std.specs.List.{list_all}
use Rattle.std.proofs.lemmas.Bool.{cond-false, cond_both, true≢false}
use Rattle.std.proofs.lemmas.Option.{same_Some}
use Rattle.wire_types.specs.declared.Scope.{Scope}
use Rattle.wire_types.specs.declared.Reply.{Reply}
use Rattle.wire_runs.specs.Plan.{Plan, Event, Kind, Put, Commit, Arrive, Leave, Get, GetNow, Publish, Lookup, LookupWait, Fixed}
use Rattle.wire_runs.specs.Plan.{kind_at, kind, event_count}
use Rattle.wire_runs.specs.Puts.{own_with, own, stored_with, stored, put_count_with, put_count, scope_in, scope_of}
use Rattle.wire_runs.specs.Fences.{arrivals_with, arrivals, is_full, collects_with, collects}
use Rattle.wire_runs.specs.Names.{is_publish, publishes, takes_name, writes_name, calls_name}
use Rattle.wire_runs.specs.Order.{PublishesOnce, may_come}
use Rattle.wire_runs.specs.Races.{IsRewrite, IsNameRace, IsSettled}
use Rattle.wire_runs.proofs.Arrivals.{stored_is_put, written_name}
use Rattle.wire_order_laws.specs.LessOrder.{IsPublishedOnce}
use Rattle.wire_order_laws.specs.Unread.{IsGot, GetsAtOnce, IsBareAt, Same, Unread, Empty, Uncollected, IsBare, BareFinds, CantRace, NothingRaces}
use Rattle.wire_order_laws.proofs.Beside.{beside, takes_alike, writes_alike, calls_alike}
use Rattle.wire_order_laws.proofs.Alike.{IsPlain, Agrees, settled_alike}

-- where no put of the key has come, none has come before
none_before : (key n : ℕ) (v : Option ℕ) (k : Kind) → own_with key n v (Some k) ≡ None → v ≡ None
none_before key n v (Put other scope) = cond_both (other == key) (Some n) v (λ o. o ≡ None → v ≡ None) (λ t h. cc) (λ f h. h)
none_before key n v _ = λ h. h

none_after : (key n : ℕ) (v w : Option ℕ) (k : Kind) → own_with key n v (Some k) ≡ None → w ≡ None → own_with key n w (Some k) ≡ None
none_after key n v w (Put other scope) = cond_both (other == key) (Some n) v (λ o. o ≡ None → w ≡ None → own_with key n w (Some (Put other scope)) ≡ None)
    (λ t h e. cc) (λ f h e. cond-false _ (Some n) w f ∙ e)
none_after key n v w _ = λ h e. e

module _ (bare full : Plan) (less : IsBare bare full) where
  -- what holds of no call, and of a call and what stands in its place, holds at each event
  both : (x : Event) (holds : Option Kind → Option Kind → Type 0) → holds None None →
      ((k l : Kind) → kind full x ≡ Some k → kind bare x ≡ Some l → IsBareAt bare full x k l → holds (Some k) (Some l)) → holds (kind full x) (kind bare x)
  both = beside full bare (IsBareAt bare full) less.counts less.calls

  -- what doesn't tell a put or a commit from a call of fixed reply, nor whether a fence collects, is the same of both
  seen : {A : Type 0} (f : Option Kind → A) → ((key : ℕ) (scope : Scope) (reply : Reply) → f (Some (Put key scope)) ≡ f (Some (Fixed reply))) →
      ((reply : Reply) → f (Some Commit) ≡ f (Some (Fixed reply))) → ((members : List ℕ) (collect : Bool) → f (Some (Arrive members collect)) ≡ f (Some (Arrive members false))) →
      (x : Event) → f (kind full x) ≡ f (kind bare x)
  seen f put commit arrive x = both x (λ o q. f o ≡ f q) refl (λ k l is there at. go k l at)
    where
      go : (k l : Kind) → IsBareAt bare full x k l → f (Some k) ≡ f (Some l)
      go k l (Same s) = ap (λ v. f (Some v)) s
      go k l (Unread key scope reply put_is fixed only not) = ap (λ v. f (Some v)) put_is ∙ put key scope reply ∙ ap (λ v. f (Some v)) (sym fixed)
      go k l (Empty reply commit_is fixed all) = ap (λ v. f (Some v)) commit_is ∙ commit reply ∙ ap (λ v. f (Some v)) (sym fixed)
      go k l (Uncollected members collect arrive_is bare_is not) = ap (λ v. f (Some v)) arrive_is ∙ arrive members collect ∙ ap (λ v. f (Some v)) (sym bare_is)

  plain_there : (x : Event) (m : Kind) → IsPlain m → kind full x ≡ Some m → kind bare x ≡ Some m
  plain_there x m plain = both x (λ o q. o ≡ Some m → q ≡ Some m) (λ h. h) (λ k l is there at h. go k l at (same_Some _ _ h))
    where
      go : (k l : Kind) → IsBareAt bare full x k l → k ≡ m → Some l ≡ Some m
      go k l (Same s) h = ap Some (sym s ∙ h)
      go k l (Unread key scope reply put_is fixed only not) h = absurd (subst IsPlain (sym h ∙ put_is) plain)
      go k l (Empty reply commit_is fixed all) h = absurd (subst IsPlain (sym h ∙ commit_is) plain)
      go k l (Uncollected members collect arrive_is bare_is not) h = absurd (subst IsPlain (sym h ∙ arrive_is) plain)

  plain_back : (x : Event) (m : Kind) → IsPlain m → kind bare x ≡ Some m → kind full x ≡ Some m
  plain_back x m plain = both x (λ o q. q ≡ Some m → o ≡ Some m) (λ h. h) (λ k l is there at h. go k l at (same_Some _ _ h))
    where
      go : (k l : Kind) → IsBareAt bare full x k l → l ≡ m → Some k ≡ Some m
      go k l (Same s) h = ap Some (s ∙ h)
      go k l (Unread key scope reply put_is fixed only not) h = absurd (subst IsPlain (sym h ∙ fixed) plain)
      go k l (Empty reply commit_is fixed all) h = absurd (subst IsPlain (sym h ∙ fixed) plain)
      go k l (Uncollected members collect arrive_is bare_is not) h = absurd (subst IsPlain (sym h ∙ bare_is) plain)

  arrives_there : (x : Event) (members : List ℕ) (collect : Bool) → kind full x ≡ Some (Arrive members collect) → (says : Bool) × (kind bare x ≡ Some (Arrive members says))
  arrives_there x members collect = both x (λ o q. o ≡ Some (Arrive members collect) → (says : Bool) × (q ≡ Some (Arrive members says))) (λ h. (collect, h)) (λ k l is there at h. go k l at (same_Some _ _ h))
    where
      go : (k l : Kind) → IsBareAt bare full x k l → k ≡ Arrive members collect → (says : Bool) × (Some l ≡ Some (Arrive members says))
      go k l (Same s) h = (collect, ap Some (sym s ∙ h))
      go k l (Unread key scope reply put_is fixed only not) h = absurd (never (sym put_is ∙ h))
        where
          never : Put key scope ≡ Arrive members collect → ⊥
          never e = cc
      go k l (Empty reply commit_is fixed all) h = absurd (never (sym commit_is ∙ h))
        where
          never : Commit ≡ Arrive members collect → ⊥
          never e = cc
      go k l (Uncollected others says arrive_is bare_is not) h = (false, ap Some (bare_is ∙ ap (λ ms. Arrive ms false) (ap members_in (sym arrive_is ∙ h))))
        where
          members_in : Kind → List ℕ
          members_in (Arrive ms c) = ms
          members_in _ = others

  arrives_back : (x : Event) (members : List ℕ) (collect : Bool) → kind bare x ≡ Some (Arrive members collect) → (says : Bool) × (kind full x ≡ Some (Arrive members says))
  arrives_back x members collect = both x (λ o q. q ≡ Some (Arrive members collect) → (says : Bool) × (o ≡ Some (Arrive members says))) (λ h. (collect, h)) (λ k l is there at h. go k l at (same_Some _ _ h))
    where
      go : (k l : Kind) → IsBareAt bare full x k l → l ≡ Arrive members collect → (says : Bool) × (Some k ≡ Some (Arrive members says))
      go k l (Same s) h = (collect, ap Some (s ∙ h))
      go k l (Unread key scope reply put_is fixed only not) h = absurd (never (sym fixed ∙ h))
        where
          never : Fixed reply ≡ Arrive members collect → ⊥
          never e = cc
      go k l (Empty reply commit_is fixed all) h = absurd (never (sym fixed ∙ h))
        where
          never : Fixed reply ≡ Arrive members collect → ⊥
          never e = cc
      go k l (Uncollected others says arrive_is bare_is not) h = (says, ap Some (arrive_is ∙ ap (λ ms. Arrive ms says) (ap members_in (sym bare_is ∙ h))))
        where
          members_in : Kind → List ℕ
          members_in (Arrive ms c) = ms
          members_in _ = others

  -- counts along a process
  arrivals_are : (p : ℕ) (members : List ℕ) (n : ℕ) → arrivals full p members n ≡ arrivals bare p members n
  arrivals_are p members zero = refl
  arrivals_are p members (suc n) =
      ap (λ m. arrivals_with members m (kind_at full p n)) (arrivals_are p members n)
      ∙ seen (arrivals_with members (arrivals bare p members n)) (λ key scope reply. refl) (λ reply. refl) (λ ms c. refl) (record { proc = p; at = n })

  publishes_are : (p name n : ℕ) → publishes full p name n ≡ publishes bare p name n
  publishes_are p name zero = refl
  publishes_are p name (suc n) =
      ap (λ b. is_publish name (kind_at full p n) || b) (publishes_are p name n)
      ∙ ap (λ b. b || publishes bare p name n) (seen (is_publish name) (λ key scope reply. refl) (λ reply. refl) (λ ms c. refl) (record { proc = p; at = n }))

  -- of a key that some call gets every put is there
  owns_are : (p key n : ℕ) → IsGot bare p key → own full p key n ≡ own bare p key n
  owns_are p key zero g = refl
  owns_are p key (suc n) g =
      ap (λ v. own_with key n v (kind_at full p n)) (owns_are p key n g)
      ∙ both x (λ o q. own_with key n before o ≡ own_with key n before q) refl (λ k l is there at. go k l at)
    where
      x : Event
      x = record { proc = p; at = n }

      before : Option ℕ
      before = own bare p key n

      go : (k l : Kind) → IsBareAt bare full x k l → own_with key n before (Some k) ≡ own_with key n before (Some l)
      go k l (Same s) = ap (λ v. own_with key n before (Some v)) s
      go k l (Unread other scope reply put_is fixed only not) =
          ap (λ v. own_with key n before (Some v)) put_is ∙ cond-false _ (Some n) before (ne_eqb other key (λ e. not (subst (λ v. IsGot bare p v) (sym e) g)))
          ∙ ap (λ v. own_with key n before (Some v)) (sym fixed)
      go k l (Empty reply commit_is fixed all) = ap (λ v. own_with key n before (Some v)) commit_is ∙ ap (λ v. own_with key n before (Some v)) (sym fixed)
      go k l (Uncollected members collect arrive_is bare_is not) = ap (λ v. own_with key n before (Some v)) arrive_is ∙ ap (λ v. own_with key n before (Some v)) (sym bare_is)

  puts_are : (p key n : ℕ) → IsGot bare p key → put_count full p key n ≡ put_count bare p key n
  puts_are p key zero g = refl
  puts_are p key (suc n) g =
      ap (λ v. put_count_with key v (kind_at full p n)) (puts_are p key n g)
      ∙ both x (λ o q. put_count_with key before o ≡ put_count_with key before q) refl (λ k l is there at. go k l at)
    where
      x : Event
      x = record { proc = p; at = n }

      before : ℕ
      before = put_count bare p key n

      go : (k l : Kind) → IsBareAt bare full x k l → put_count_with key before (Some k) ≡ put_count_with key before (Some l)
      go k l (Same s) = ap (λ v. put_count_with key before (Some v)) s
      go k l (Unread other scope reply put_is fixed only not) =
          ap (λ v. put_count_with key before (Some v)) put_is ∙ cond-false _ (suc before) before (ne_eqb other key (λ e. not (subst (λ v. IsGot bare p v) (sym e) g)))
          ∙ ap (λ v. put_count_with key before (Some v)) (sym fixed)
      go k l (Empty reply commit_is fixed all) = ap (λ v. put_count_with key before (Some v)) commit_is ∙ ap (λ v. put_count_with key before (Some v)) (sym fixed)
      go k l (Uncollected members collect arrive_is bare_is not) = ap (λ v. put_count_with key before (Some v)) arrive_is ∙ ap (λ v. put_count_with key before (Some v)) (sym bare_is)

  stores_are : (p key n : ℕ) → IsGot bare p key → stored full p key n ≡ stored bare p key n
  stores_are p key zero g = refl
  stores_are p key (suc n) g =
      ap (λ v. stored_with v (stored full p key n) (kind_at full p n)) (owns_are p key n g)
      ∙ ap (λ v. stored_with committed v (kind_at full p n)) (stores_are p key n g)
      ∙ both x (λ o q. stored_with committed before o ≡ stored_with committed before q) refl (λ k l is there at. go k l at)
    where
      x : Event
      x = record { proc = p; at = n }

      committed : Option ℕ
      committed = own bare p key n

      before : Option ℕ
      before = stored bare p key n

      go : (k l : Kind) → IsBareAt bare full x k l → stored_with committed before (Some k) ≡ stored_with committed before (Some l)
      go k l (Same s) = ap (λ v. stored_with committed before (Some v)) s
      go k l (Unread other scope reply put_is fixed only not) = ap (λ v. stored_with committed before (Some v)) put_is ∙ ap (λ v. stored_with committed before (Some v)) (sym fixed)
      go k l (Empty reply commit_is fixed all) = ap (λ v. stored_with committed before (Some v)) commit_is ∙ all key ∙ ap (λ v. stored_with committed before (Some v)) (sym fixed)
      go k l (Uncollected members collect arrive_is bare_is not) = ap (λ v. stored_with committed before (Some v)) arrive_is ∙ ap (λ v. stored_with committed before (Some v)) (sym bare_is)

  put_there : (x : Event) (key : ℕ) (scope : Scope) → IsGot bare x.proc key → kind full x ≡ Some (Put key scope) → kind bare x ≡ Some (Put key scope)
  put_there x key scope g = both x (λ o q. o ≡ Some (Put key scope) → q ≡ Some (Put key scope)) (λ h. h) (λ k l is there at h. go k l at (same_Some _ _ h))
    where
      key_in : Kind → ℕ
      key_in (Put k s) = k
      key_in _ = key

      go : (k l : Kind) → IsBareAt bare full x k l → k ≡ Put key scope → Some l ≡ Some (Put key scope)
      go k l (Same s) h = ap Some (sym s ∙ h)
      go k l (Unread other says reply put_is fixed only not) h = absurd (not (subst (λ v. IsGot bare x.proc v) (sym (ap key_in (sym put_is ∙ h))) g))
      go k l (Empty reply commit_is fixed all) h = absurd (never (sym commit_is ∙ h))
        where
          never : Commit ≡ Put key scope → ⊥
          never e = cc
      go k l (Uncollected members collect arrive_is bare_is not) h = absurd (never (sym arrive_is ∙ h))
        where
          never : Arrive members collect ≡ Put key scope → ⊥
          never e = cc

  scopes_are : (p key n put : ℕ) → IsGot bare p key → stored full p key n ≡ Some put → scope_of full p put ≡ scope_of bare p put
  scopes_are p key n put g is =
      let w = stored_is_put full p key n put is in
      ap scope_in (w.1 ∙ sym (put_there (record { proc = p; at = put }) key w.0 g w.1))

  now_there : GetsAtOnce full → GetsAtOnce bare
  now_there now = (now.0, now.1, now.2, plain_there now.0 _ tt now.3)

  collects_are : GetsAtOnce bare → (p : ℕ) (members : List ℕ) (j n : ℕ) → collects full p members j n ≡ collects bare p members j n
  collects_are now p members j zero = refl
  collects_are now p members j (suc n) =
      ap (λ m. collects_with members j m (collects full p members j n) (kind_at full p n)) (arrivals_are p members n)
      ∙ ap (λ v. collects_with members j arrived v (kind_at full p n)) (collects_are now p members j n)
      ∙ both x (λ o q. collects_with members j arrived before o ≡ collects_with members j arrived before q) refl (λ k l is there at. go k l at)
    where
      x : Event
      x = record { proc = p; at = n }

      arrived : ℕ
      arrived = arrivals bare p members n

      before : Bool
      before = collects bare p members j n

      go : (k l : Kind) → IsBareAt bare full x k l → collects_with members j arrived before (Some k) ≡ collects_with members j arrived before (Some l)
      go k l (Same s) = ap (λ v. collects_with members j arrived before (Some v)) s
      go k l (Unread other scope reply put_is fixed only not) = ap (λ v. collects_with members j arrived before (Some v)) put_is ∙ ap (λ v. collects_with members j arrived before (Some v)) (sym fixed)
      go k l (Empty reply commit_is fixed all) = ap (λ v. collects_with members j arrived before (Some v)) commit_is ∙ ap (λ v. collects_with members j arrived before (Some v)) (sym fixed)
      go k l (Uncollected others collect arrive_is bare_is not) = absurd (not now)

  -- names
  publish_alike : (p name : ℕ) → publishes full p name (event_count full p) ≡ publishes bare p name (event_count bare p)
  publish_alike p name = publishes_are p name (event_count full p) ∙ ap (publishes bare p name) (sym (less.counts p))

  takes_are : (name : ℕ) (x : Event) → takes_name full name x (kind full x) ≡ takes_name bare name x (kind bare x)
  takes_are name x = seen (takes_name full name x) (λ key scope reply. refl) (λ reply. refl) (λ ms c. refl) x ∙ takes_alike full bare publish_alike name x (kind bare x)

  writes_are : (name : ℕ) (x : Event) → writes_name full name x (kind full x) ≡ writes_name bare name x (kind bare x)
  writes_are name x = seen (writes_name full name x) (λ key scope reply. refl) (λ reply. refl) (λ ms c. refl) x ∙ writes_alike full bare publish_alike name x (kind bare x)

  calls_are : (name : ℕ) (x : Event) → calls_name full name x (kind full x) ≡ calls_name bare name x (kind bare x)
  calls_are name x = seen (calls_name full name x) (λ key scope reply. refl) (λ reply. refl) (λ ms c. refl) x ∙ calls_alike full bare publish_alike name x (kind bare x)

  -- what may come
  full_is : (members : List ℕ) (j : ℕ) → is_full full members j ≡ is_full bare members j
  full_is members j = ap (λ f. list_all f members) (λ t m. nat_le j ((arrivals_are m members (event_count full m) ∙ ap (arrivals bare m members) (sym (less.counts m))) t))

  may_plan : (y : Event) (o : Option Kind) → kind bare y ≡ o → may_come full y o ≡ may_come bare y o
  may_plan y None is = refl
  may_plan y (Some (Get owner key)) is =
      let g : IsGot bare owner key = (y, inl is) in
      let all = sym (less.counts owner) in
      ap (λ v. if y.proc == owner then is_some v else (is_some (stored full owner key (event_count full owner)) || nat_le 2 (put_count full owner key (event_count full owner)))) (owns_are owner key y.at g)
      ∙ ap (λ v. if y.proc == owner then is_some (own bare owner key y.at) else (is_some v || nat_le 2 (put_count full owner key (event_count full owner))))
      (stores_are owner key (event_count full owner) g ∙ ap (stored bare owner key) all)
      ∙ ap (λ v. if y.proc == owner then is_some (own bare owner key y.at) else (is_some (stored bare owner key (event_count bare owner)) || nat_le 2 v))
      (puts_are owner key (event_count full owner) g ∙ ap (put_count bare owner key) all)
  may_plan y (Some (Leave members)) is = ap (is_full full members) (arrivals_are y.proc members y.at) ∙ full_is members (arrivals bare y.proc members y.at)
  may_plan y (Some _) is = refl

  may_are : (y : Event) → may_come full y (kind full y) ≡ may_come bare y (kind bare y)
  may_are y = seen (may_come full y) (λ key scope reply. refl) (λ reply. refl) (λ ms c. refl) y ∙ may_plan y (kind bare y) refl

  got_there : (x : Event) (p key : ℕ) → (kind full x ≡ Some (Get p key)) ⊎ (kind full x ≡ Some (GetNow p key)) → IsGot bare p key
  got_there x p key h = elim h [ inl is ↦ (x, inl (plain_there x _ tt is)) | inr is ↦ (x, inr (plain_there x _ tt is)) ]

  there : Agrees (IsGot bare) full bare
  there = record {
    counts = λ p. sym (less.counts p);
    nodes = less.nodes;
    keeps = less.keeps;
    plain = plain_there;
    arrives = arrives_there;
    arrivals_are = arrivals_are;
    got = got_there;
    stores = stores_are;
    puts = puts_are;
    scopes = scopes_are;
    collect = λ now. collects_are (now_there now);
    takes = takes_are;
    writes = writes_are;
    named = calls_are;
    may = may_are;
  }

  back : Agrees (IsGot bare) bare full
  back = record {
    counts = less.counts;
    nodes = λ p. sym (less.nodes p);
    keeps = sym less.keeps;
    plain = plain_back;
    arrives = arrives_back;
    arrivals_are = λ p members n. sym (arrivals_are p members n);
    got = λ x p key is. (x, is);
    stores = λ p key n g. sym (stores_are p key n g);
    puts = λ p key n g. sym (puts_are p key n g);
    scopes = λ p key n put g is. sym (scopes_are p key n put g (stores_are p key n g ∙ is));
    collect = λ now p members j n. sym (collects_are now p members j n);
    takes = λ name x. sym (takes_are name x);
    writes = λ name x. sym (writes_are name x);
    named = λ name x. sym (calls_are name x);
    may = λ y. sym (may_are y);
  }

  -- a put of a key that is put again isn't left out
  put_again : (x y : Event) (key : ℕ) (scope says : Scope) → kind full x ≡ Some (Put key scope) → kind full y ≡ Some (Put key says) → y.proc ≡ x.proc → (y ≡ x → ⊥) → kind bare x ≡ Some (Put key scope)
  put_again x y key scope says is other same ne = both x (λ o q. o ≡ Some (Put key scope) → q ≡ Some (Put key scope)) (λ h. h) (λ k l there_is bare_is at h. go k l at (same_Some _ _ h)) is
    where
      key_in : Kind → ℕ
      key_in (Put k s) = k
      key_in _ = key

      go : (k l : Kind) → IsBareAt bare full x k l → k ≡ Put key scope → Some l ≡ Some (Put key scope)
      go k l (Same s) h = ap Some (sym s ∙ h)
      go k l (Unread own_key own_scope reply put_is fixed only not) h = absurd (ne (only y says same (other ∙ ap (λ v. Some (Put v says)) (sym (ap key_in (sym put_is ∙ h))))))
      go k l (Empty reply commit_is fixed all) h = absurd (never (sym commit_is ∙ h))
        where
          never : Commit ≡ Put key scope → ⊥
          never e = cc
      go k l (Uncollected members collect arrive_is bare_is not) h = absurd (never (sym arrive_is ∙ h))
        where
          never : Arrive members collect ≡ Put key scope → ⊥
          never e = cc

  own_none : (p key n : ℕ) → own full p key n ≡ None → own bare p key n ≡ None
  own_none p key zero h = refl
  own_none p key (suc n) h =
      both (record { proc = p; at = n }) (λ o q. own_with key n (own full p key n) o ≡ None → (own full p key n ≡ None → own bare p key n ≡ None) → own_with key n (own bare p key n) q ≡ None)
      (λ e ih. ih e) (λ k l is there_is at e ih. go k l at e ih) h (own_none p key n)
    where
      go : (k l : Kind) → IsBareAt bare full (record { proc = p; at = n }) k l → own_with key n (own full p key n) (Some k) ≡ None →
          (own full p key n ≡ None → own bare p key n ≡ None) → own_with key n (own bare p key n) (Some l) ≡ None
      go k l (Same s) e ih = subst (λ v. own_with key n (own bare p key n) (Some v) ≡ None) s (none_after key n (own full p key n) (own bare p key n) k e (ih (none_before key n (own full p key n) k e)))
      go k l (Unread other scope reply put_is fixed only not) e ih = ap (λ v. own_with key n (own bare p key n) (Some v)) fixed ∙ ih (none_before key n (own full p key n) k e)
      go k l (Empty reply commit_is fixed all) e ih = ap (λ v. own_with key n (own bare p key n) (Some v)) fixed ∙ ih (none_before key n (own full p key n) k e)
      go k l (Uncollected members collect arrive_is bare_is not) e ih = ap (λ v. own_with key n (own bare p key n) (Some v)) bare_is ∙ ih (none_before key n (own full p key n) k e)

  rewrite_there : (x y : Event) → IsRewrite full x y → IsRewrite bare x y
  rewrite_there x y r = record {
    key = r.key;
    first_scope = r.first_scope;
    later_scope = r.later_scope;
    first_is = put_again x y r.key r.first_scope r.later_scope r.first_is r.later_is (sym r.same) (λ e. two (ap (λ (v : Event). v.at) (sym e)));
    later_is = put_again y x r.key r.later_scope r.first_scope r.later_is r.first_is r.same (λ e. two (ap (λ (v : Event). v.at) e));
    first = own_none x.proc r.key x.at r.first;
    same = r.same;
    later = r.later;
  }
    where
      two : x.at ≡ y.at → ⊥
      two e = let lt = r.later in omega (arith, lt, e)

pub bare_finds : BareFinds
bare_finds bare full less = settled_alike (IsGot bare) full bare (there bare full less) (back bare full less) (rewrite_there bare full less)

-- without a call that can race
module _ (plan : Plan) (cant : CantRace plan) where
  -- who changes a name publishes it
  publisher : (x : Event) (name : ℕ) (once : IsPublishedOnce plan name) → writes_name plan name x (kind plan x) ≡ true → x ≡ once.0
  publisher x name once h = go (kind plan x) refl h
    where
      go : (o : Option Kind) → kind plan x ≡ o → writes_name plan name x o ≡ true → x ≡ once.0
      go None is h = absurd (true≢false (sym h))
      go (Some (Publish n)) is h = once.1.only x (is ∙ ap (λ v. Some (Publish v)) (eqb-true n name h))
      go (Some k) is h = absurd (true≢false (sym (ap (takes_name plan name x) is ∙ h) ∙ once.1.stays x))

  -- who calls a name publishes it or waits for it
  caller : (y : Event) (name : ℕ) → calls_name plan name y (kind plan y) ≡ true → (kind plan y ≡ Some (LookupWait name)) ⊎ (writes_name plan name y (kind plan y) ≡ true)
  caller y name h = go (kind plan y) refl h
    where
      go : (o : Option Kind) → kind plan y ≡ o → calls_name plan name y o ≡ true → (kind plan y ≡ Some (LookupWait name)) ⊎ (writes_name plan name y (kind plan y) ≡ true)
      go None is h = absurd (true≢false (sym h))
      go (Some (Lookup n)) is h = absurd (cant.lookups y n is)
      go (Some (LookupWait n)) is h = inl (is ∙ ap (λ v. Some (LookupWait v)) (eqb-true n name h))
      go (Some k) is h = inr (ap (writes_name plan name y) is ∙ h)

  name_race : (x y : Event) (name : ℕ) → IsNameRace plan x y name → ⊥
  name_race x y name r =
      let once = cant.names name (written_name plan name x r.x_writes) in
      let at = publisher x name once r.x_writes in
      elim (caller y name r.y_calls) [
        | inl is ↦ r.not_once (subst (λ v. PublishesOnce plan v name) (sym at) once.1) is
        | inr h ↦ r.others (ap (λ (v : Event). v.proc) (at ∙ sym (publisher y name once h)))
      ]

  cant_race : IsSettled plan
  cant_race = record {
    no_rewrite = λ x y r. (let lt = r.later in let e = ap (λ (v : Event). v.at) (cant.puts x r.key r.first_scope r.first_is y r.later_scope (sym r.same) r.later_is) in omega (arith, lt, e));
    no_node_race = λ c g key r. cant.waits (g, c.proc, key, r.near.is);
    no_delivery_race = λ source get owner key r. cant.waits (get, owner, key, r.is);
    no_name_race = name_race;
  }

pub nothing_races : NothingRaces
nothing_races plan cant = cant_race plan cant
