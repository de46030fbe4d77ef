-- Small plans for the premises of the laws: plans that meet them, and plans that nearly do.
use Rattle.std.proofs.Common.{◌≡◌, ℕ, zero, suc, ◌<◌, List, [], ◌∷◌, Bool, true, false, ◌==◌, Option, Some, None, inl, inr, refl, sym, ap, ◌∙◌, subst, arith}
use Rattle.std.proofs.lemmas.Option.{same_Some}
use Rattle.wire_types.specs.declared.Scope.{Scope}
use Rattle.wire_types.specs.declared.Scope.TheVariants.{Global}
use Rattle.wire_types.specs.Replies.{bare as says}
use Rattle.wire_types.specs.declared.Reply.{Reply}
use Rattle.wire_types.specs.declared.Status.TheVariants as status
use Rattle.wire_runs.specs.Plan.{CallPut, CallCommit, CallFence, CallPublish, CallLookup, CallLookupWait, CallFixed}
use Rattle.wire_runs.specs.Plan.{Plan, Event, Kind, Put, Arrive, Leave, Get, GetNow, Publish, Lookup, LookupWait, Fixed, kinds, kind_at, event_count, node_of}
use Rattle.wire_runs.specs.Names.{takes_name}
use Rattle.wire_runs.specs.Order.{PublishesOnce, Edge, Follows, Meets, Feeds, Announces, Live, live, Before, edge}
use Rattle.wire_runs.specs.Embeddings.{IsNameOf, name_of}
use Rattle.wire_runs.specs.Parts.{Piece, Kept, Left, kept_kinds, all_kinds, place_in, in_place}
use Rattle.wire_runs.proofs.Due.{live_source, place_path}
use Rattle.wire_runs.proofs.Histories.{before_live, joined, same_process}
use Rattle.wire_runs.proofs.FenceChains.{last_edge}
use Rattle.wire_order_laws.specs.Unread.{IsGot, GetsAtOnce, IsBareAt, Same, Unread, Empty, Uncollected, IsBare}
use Rattle.wire_order_laws.specs.WholeFences.{IsWithoutAt, Stays, Goes, IsWithoutFences}
use Rattle.wire_order_laws.specs.OrderThere.{IsNew, AddsNames, AwaitsNew, IsAhead, IsBehind, HearsOf, AddsNoOrder}

-- a name is published, waited for and looked up; in the larger plan the publisher says by a second name that it has
-- published, and the other waits for that too
known : Plan
known = record { processes = record { node = 0; calls = CallPublish 5 ∷ [] } ∷ (record { node = 0; calls = CallLookupWait 5 ∷ (CallLookup 5 ∷ []) } ∷ []); keep = false }

told : Plan
told = record {
  processes =
      record { node = 0; calls = CallPublish 5 ∷ (CallPublish 9 ∷ []) }
      ∷ (record { node = 0; calls = CallLookupWait 5 ∷ (CallLookupWait 9 ∷ (CallLookup 5 ∷ [])) } ∷ []);
  keep = false;
}

abbrev pieces : ℕ → List Piece
pieces zero = Kept (Publish 5) ∷ (Left (Publish 9) ∷ [])
pieces (suc zero) = Kept (LookupWait 5) ∷ (Left (LookupWait 9) ∷ (Kept (Lookup 5) ∷ []))
pieces (suc (suc p)) = []

-- the events of the larger plan, one by one
each_told : (P : ℕ → ℕ → Option Kind → Type 0) → P 0 0 (Some (Publish 5)) → P 0 1 (Some (Publish 9)) → P 1 0 (Some (LookupWait 5)) → P 1 1 (Some (LookupWait 9)) →
    P 1 2 (Some (Lookup 5)) → ((p i : ℕ) → P p i None) → (p i : ℕ) → P p i (kind_at told p i)
unfolding told kinds kind_at
each_told P a b c d e n zero zero = a
each_told P a b c d e n zero (suc zero) = b
each_told P a b c d e n zero (suc (suc i)) = n zero (suc (suc i))
each_told P a b c d e n (suc zero) zero = c
each_told P a b c d e n (suc zero) (suc zero) = d
each_told P a b c d e n (suc zero) (suc (suc zero)) = e
each_told P a b c d e n (suc zero) (suc (suc (suc i))) = n 1 (suc (suc (suc i)))
each_told P a b c d e n (suc (suc p)) i = n (suc (suc p)) i

each_known : (P : Option Kind → Type 0) → P (Some (Publish 5)) → P (Some (LookupWait 5)) → P (Some (Lookup 5)) → P None → (p i : ℕ) → P (kind_at known p i)
unfolding known kinds kind_at
each_known P a b c n zero zero = a
each_known P a b c n zero (suc i) = n
each_known P a b c n (suc zero) zero = b
each_known P a b c n (suc zero) (suc zero) = c
each_known P a b c n (suc zero) (suc (suc i)) = n
each_known P a b c n (suc (suc p)) i = n

abbrev at : ℕ → ℕ → Event
at p i = record { proc = p; at = i }

abbrev name_in : Option Kind → Option ℕ
name_in None = None
name_in (Some k) = name_of k

not_nine : IsNameOf known 9 → ⊥
not_nine n = each_known (λ o. name_in o ≡ Some 9 → ⊥) (λ e. cc) (λ e. cc) (λ e. cc) (λ e. cc) n.0.proc n.0.at (ap name_in n.2 ∙ n.3)

nine_once : PublishesOnce told (at 0 1) 9
unfolding told kinds kind_at
nine_once = record {
  is = refl;
  only = λ y is. each_told (λ p i o. o ≡ Some (Publish 9) → at p i ≡ at 0 1) (λ e. cc) (λ e. refl) (λ e. cc) (λ e. cc) (λ e. cc) (λ p i e. cc) y.proc y.at is;
  stays = λ y. each_told (λ p i o. takes_name told 9 y o ≡ false) refl refl refl refl refl (λ p i. refl) y.proc y.at;
}

five_once : PublishesOnce known (at 0 0) 5
unfolding known kinds kind_at
five_once = record {
  is = refl;
  only = λ y is. only y.proc y.at is;
  stays = λ y. each_known (λ o. takes_name known 5 y o ≡ false) refl refl refl refl y.proc y.at;
}
  where
    only : (p i : ℕ) → kind_at known p i ≡ Some (Publish 5) → at p i ≡ at 0 0
    only zero zero e = refl
    only zero (suc i) e = cc
    only (suc zero) zero e = cc
    only (suc zero) (suc zero) e = cc
    only (suc zero) (suc (suc i)) e = cc
    only (suc (suc p)) i e = cc

five_is_known : IsNameOf known 5
unfolding known kinds kind_at
five_is_known = (at 0 0, Publish 5, refl, refl)

-- the added wait is the second call of process 1, and what it waits for is the second of process 0
the_wait : (w : Event) (name : ℕ) → AwaitsNew known told w name → w ≡ at 1 1
the_wait w name a = each_told (λ p i o. o ≡ Some (LookupWait name) → at p i ≡ at 1 1) (λ e. cc) (λ e. cc)
    (λ e. absurd (a.new (subst (λ n. IsNameOf known n) (ap name_of_wait e) five_is_known))) (λ e. refl) (λ e. cc) (λ p i e. cc) w.proc w.at a.is
  where
    name_of_wait : Option Kind → ℕ
    name_of_wait (Some (LookupWait n)) = n
    name_of_wait _ = 5

the_publish : (u : Event) (name : ℕ) → (IsNameOf known name → ⊥) → PublishesOnce told u name → u ≡ at 0 1
the_publish u name new o = each_told (λ p i q. q ≡ Some (Publish name) → at p i ≡ at 0 1)
    (λ e. absurd (new (subst (λ n. IsNameOf known n) (ap name_of_publish e) five_is_known))) (λ e. refl) (λ e. cc) (λ e. cc) (λ e. cc) (λ p i e. cc) u.proc u.at o.is
  where
    name_of_publish : Option Kind → ℕ
    name_of_publish (Some (Publish n)) = n
    name_of_publish _ = 5

-- what stands behind the wait comes after the first name
after_five : (y : Event) → Live known y → y.proc ≡ 1 → 0 < y.at → Before known (at 0 0) y
unfolding known kinds kind_at
after_five y alive same lt =
    let b = same_process known (at 1 0) y alive (sym same) lt in
    let e : Edge known (at 0 0) (at 1 0) = Announces 5 refl five_once in
    let there = before_live b in
    joined (edge (live_source there e) e there) b

first_of : (n : ℕ) → place_in (pieces 0) n < 1 → n ≡ 0
first_of zero lt = refl
first_of (suc n) lt = absurd (omega (arith, lt))

past_first : (n : ℕ) → 1 < place_in (pieces 1) n → 0 < n
past_first zero lt = absurd (omega (arith, lt))
past_first (suc n) lt = omega arith

-- the second name orders nothing that the first doesn't
told_is_known : AddsNoOrder known told pieces
unfolding known told kinds kind_at node_of
told_is_known = record {
  kept = λ p. kept p;
  all = λ p. all p;
  adds = λ p. adds p;
  nodes = λ p. nodes p;
  keeps = refl;
  known = λ u y t x a.
      let u_is = the_publish u t.name t.waits.new t.publishes in
      let w_is = the_wait t.wait t.name t.waits in
      let behind = subst (λ w. IsBehind pieces y w) w_is t.behind in
      let ahead = subst (λ v. IsAhead pieces x v) u_is a in
      let first = first_of x.at (subst (λ p. place_in (pieces p) x.at < 1) ahead.0 ahead.1) in
      let later = past_first y.at (subst (λ p. 1 < place_in (pieces p) y.at) behind.0 behind.1) in
      subst (λ v. Before known v y) (sym (place_path x 0 0 ahead.0 first)) (after_five y t.alive behind.0 later);
  passed = λ u y t v name a same lt. absurd (
      let u_is = the_publish u t.name t.waits.new t.publishes in
      let v_is = the_wait v name a in
      let here : 1 ≡ 0 = ap (λ (z : Event). z.proc) (sym v_is) ∙ same ∙ ap (λ (z : Event). z.proc) u_is in
      omega (arith, here));
}
  where
    new : IsNew known told 9
    new = ((at 0 1, nine_once), not_nine)

    kept : (p : ℕ) → kinds known p ≡ kept_kinds (pieces p)
    kept zero = refl
    kept (suc zero) = refl
    kept (suc (suc p)) = refl

    all : (p : ℕ) → kinds told p ≡ all_kinds (in_place pieces) (pieces p)
    all zero = refl
    all (suc zero) = refl
    all (suc (suc p)) = refl

    adds : (p : ℕ) → AddsNames known told (pieces p)
    adds zero = (new, tt)
    adds (suc zero) = (new, tt)
    adds (suc (suc p)) = tt

    nodes : (p : ℕ) → node_of told p ≡ node_of known p
    nodes zero = refl
    nodes (suc zero) = refl
    nodes (suc (suc p)) = refl

-- without the wait for the first name, the second orders the lookup behind the publish, which the plan doesn't
asked : Plan
asked = record { processes = record { node = 0; calls = CallPublish 5 ∷ [] } ∷ (record { node = 0; calls = CallLookup 5 ∷ [] } ∷ []); keep = false }

ordered : Plan
ordered = record {
  processes =
      record { node = 0; calls = CallPublish 5 ∷ (CallPublish 9 ∷ []) }
      ∷ (record { node = 0; calls = CallLookupWait 9 ∷ (CallLookup 5 ∷ []) } ∷ []);
  keep = false;
}

abbrev asked_pieces : ℕ → List Piece
asked_pieces zero = Kept (Publish 5) ∷ (Left (Publish 9) ∷ [])
asked_pieces (suc zero) = Left (LookupWait 9) ∷ (Kept (Lookup 5) ∷ [])
asked_pieces (suc (suc p)) = []

alone : (z : Event) → Edge asked z (at 1 0) → ⊥
unfolding asked kinds kind_at
alone z (Follows same next) = absurd (omega (arith, next))
alone z (Meets members is a) = cc
alone z (Feeds key is other once stores) = cc
alone z (Announces name is once) = cc

not_known : AddsNoOrder asked ordered asked_pieces → ⊥
unfolding asked ordered kinds kind_at
not_known adds =
    let n = adds.adds 0 in
    let new = n.0 in
    let u = new.0.0 in
    let u_is : at 0 1 ≡ u = new.0.1.only (at 0 1) refl in
    let told : HearsOf asked ordered asked_pieces u (at 1 0) = record {
      name = 9;
      publishes = new.0.1;
      wait = at 1 0;
      waits = record { is = refl; new = new.1 };
      behind = (refl, omega arith);
      alive = live refl (λ x f. absurd (alone x f));
    } in
    let ahead : IsAhead asked_pieces (at 0 0) u = subst (λ v. IsAhead asked_pieces (at 0 0) v) u_is (refl, omega arith) in
    let f = last_edge (adds.known u (at 1 0) told (at 0 0) ahead) in
    alone f.0 f.1

-- a first fence that collects nothing, of two over one set, is gone with the calls of both processes
abbrev pair : List ℕ
pair = 0 ∷ (1 ∷ [])

abbrev nothing : Reply
nothing = says status.Success

met_twice : Plan
met_twice = record {
  processes =
      record { node = 0; calls = CallFence pair false ∷ (CallFence pair true ∷ []) }
      ∷ (record { node = 1; calls = CallFence pair false ∷ (CallFence pair true ∷ []) } ∷ []);
  keep = false;
}

met_once : Plan
met_once = record {
  processes =
      record { node = 0; calls = CallFixed nothing ∷ (CallFixed nothing ∷ (CallFence pair true ∷ [])) }
      ∷ (record { node = 1; calls = CallFixed nothing ∷ (CallFixed nothing ∷ (CallFence pair true ∷ [])) } ∷ []);
  keep = false;
}

abbrev first_gone : List ℕ → ℕ → Bool
first_gone members j = j == 1

first_is_gone : IsWithoutFences first_gone met_once met_twice
unfolding met_once met_twice kinds kind_at node_of event_count
first_is_gone = record {
  counts = λ p. counts p;
  calls = λ x k l is bare_is. calls x.proc x.at k l is bare_is;
  nodes = λ p. nodes p;
  keeps = refl;
}
  where
    counts : (p : ℕ) → event_count met_once p ≡ event_count met_twice p
    counts zero = refl
    counts (suc zero) = refl
    counts (suc (suc p)) = refl

    nodes : (p : ℕ) → node_of met_twice p ≡ node_of met_once p
    nodes zero = refl
    nodes (suc zero) = refl
    nodes (suc (suc p)) = refl

    goes : (x : Event) (own own_bare k l : Kind) → own ≡ k → own_bare ≡ l → IsWithoutAt first_gone met_twice x own own_bare → IsWithoutAt first_gone met_twice x k l
    goes x own own_bare k l a b w = subst (λ v. IsWithoutAt first_gone met_twice x v l) a (subst (λ v. IsWithoutAt first_gone met_twice x own v) b w)

    calls : (p i : ℕ) (k l : Kind) → kind_at met_twice p i ≡ Some k → kind_at met_once p i ≡ Some l → IsWithoutAt first_gone met_twice (at p i) k l
    calls zero zero k l a b = goes (at 0 0) _ _ k l (same_Some _ _ a) (same_Some _ _ b) (Goes nothing refl (λ c. cc) refl)
    calls zero (suc zero) k l a b = goes (at 0 1) _ _ k l (same_Some _ _ a) (same_Some _ _ b) (Goes nothing refl (λ c. c) refl)
    calls zero (suc (suc zero)) k l a b = goes (at 0 2) _ _ k l (same_Some _ _ a) (same_Some _ _ b) (Stays (λ g. cc) refl)
    calls zero (suc (suc (suc zero))) k l a b = goes (at 0 3) _ _ k l (same_Some _ _ a) (same_Some _ _ b) (Stays (λ g. cc) refl)
    calls zero (suc (suc (suc (suc i)))) k l a b = cc
    calls (suc zero) zero k l a b = goes (at 1 0) _ _ k l (same_Some _ _ a) (same_Some _ _ b) (Goes nothing refl (λ c. cc) refl)
    calls (suc zero) (suc zero) k l a b = goes (at 1 1) _ _ k l (same_Some _ _ a) (same_Some _ _ b) (Goes nothing refl (λ c. c) refl)
    calls (suc zero) (suc (suc zero)) k l a b = goes (at 1 2) _ _ k l (same_Some _ _ a) (same_Some _ _ b) (Stays (λ g. cc) refl)
    calls (suc zero) (suc (suc (suc zero))) k l a b = goes (at 1 3) _ _ k l (same_Some _ _ a) (same_Some _ _ b) (Stays (λ g. cc) refl)
    calls (suc zero) (suc (suc (suc (suc i)))) k l a b = cc
    calls (suc (suc p)) i k l a b = cc

-- a put that nobody gets, its commit, and the collecting of a fence
put_and_met : Plan
put_and_met = record {
  processes =
      record { node = 0; calls = CallPut 7 Global ∷ (CallCommit ∷ (CallFence pair true ∷ [])) }
      ∷ (record { node = 1; calls = CallFence pair true ∷ [] } ∷ []);
  keep = false;
}

only_met : Plan
only_met = record {
  processes =
      record { node = 0; calls = CallFixed nothing ∷ (CallFixed nothing ∷ (CallFence pair false ∷ [])) }
      ∷ (record { node = 1; calls = CallFence pair false ∷ [] } ∷ []);
  keep = false;
}

each_met : (P : Option Kind → Type 0) → P None → P (Some (Fixed nothing)) → P (Some (Arrive pair false)) → P (Some (Leave pair)) → (p i : ℕ) → P (kind_at only_met p i)
unfolding only_met kinds kind_at
each_met P n a b c zero zero = a
each_met P n a b c zero (suc zero) = a
each_met P n a b c zero (suc (suc zero)) = b
each_met P n a b c zero (suc (suc (suc zero))) = c
each_met P n a b c zero (suc (suc (suc (suc i)))) = n
each_met P n a b c (suc zero) zero = b
each_met P n a b c (suc zero) (suc zero) = c
each_met P n a b c (suc zero) (suc (suc i)) = n
each_met P n a b c (suc (suc p)) i = n

nobody_gets : (p key : ℕ) → IsGot only_met p key → ⊥
nobody_gets p key g = elim g.1 [
  | inl is ↦ each_met (λ o. o ≡ Some (Get p key) → ⊥) (λ e. cc) (λ e. cc) (λ e. cc) (λ e. cc) g.0.proc g.0.at is
  | inr is ↦ each_met (λ o. o ≡ Some (GetNow p key) → ⊥) (λ e. cc) (λ e. cc) (λ e. cc) (λ e. cc) g.0.proc g.0.at is
]

none_at_once : GetsAtOnce only_met → ⊥
none_at_once g = each_met (λ o. o ≡ Some (GetNow g.1 g.2) → ⊥) (λ e. cc) (λ e. cc) (λ e. cc) (λ e. cc) g.0.proc g.0.at g.3

one_put : (p i : ℕ) (scope : Scope) → kind_at put_and_met p i ≡ Some (Put 7 scope) → at p i ≡ at 0 0
unfolding put_and_met kinds kind_at
one_put zero zero scope e = refl
one_put zero (suc zero) scope e = cc
one_put zero (suc (suc zero)) scope e = cc
one_put zero (suc (suc (suc zero))) scope e = cc
one_put zero (suc (suc (suc (suc i)))) scope e = cc
one_put (suc zero) zero scope e = cc
one_put (suc zero) (suc zero) scope e = cc
one_put (suc zero) (suc (suc i)) scope e = cc
one_put (suc (suc p)) i scope e = cc

met_is_bare : IsBare only_met put_and_met
unfolding only_met put_and_met kinds kind_at node_of event_count
met_is_bare = record {
  counts = λ p. counts p;
  calls = λ x k l is bare_is. calls x.proc x.at k l is bare_is;
  nodes = λ p. nodes p;
  keeps = refl;
}
  where
    counts : (p : ℕ) → event_count only_met p ≡ event_count put_and_met p
    counts zero = refl
    counts (suc zero) = refl
    counts (suc (suc p)) = refl

    nodes : (p : ℕ) → node_of put_and_met p ≡ node_of only_met p
    nodes zero = refl
    nodes (suc zero) = refl
    nodes (suc (suc p)) = refl

    stands : (x : Event) (own own_bare k l : Kind) → own ≡ k → own_bare ≡ l → IsBareAt only_met put_and_met x own own_bare → IsBareAt only_met put_and_met x k l
    stands x own own_bare k l a b w = subst (λ v. IsBareAt only_met put_and_met x v l) a (subst (λ v. IsBareAt only_met put_and_met x own v) b w)

    calls : (p i : ℕ) (k l : Kind) → kind_at put_and_met p i ≡ Some k → kind_at only_met p i ≡ Some l → IsBareAt only_met put_and_met (at p i) k l
    calls zero zero k l a b = stands (at 0 0) _ _ k l (same_Some _ _ a) (same_Some _ _ b)
        (Unread 7 Global nothing refl refl (λ y scope same is. one_put y.proc y.at scope is) (nobody_gets 0 7))
    calls zero (suc zero) k l a b = stands (at 0 1) _ _ k l (same_Some _ _ a) (same_Some _ _ b) (Empty nothing refl refl (λ key. refl))
    calls zero (suc (suc zero)) k l a b = stands (at 0 2) _ _ k l (same_Some _ _ a) (same_Some _ _ b) (Uncollected pair true refl refl none_at_once)
    calls zero (suc (suc (suc zero))) k l a b = stands (at 0 3) _ _ k l (same_Some _ _ a) (same_Some _ _ b) (Same refl)
    calls zero (suc (suc (suc (suc i)))) k l a b = cc
    calls (suc zero) zero k l a b = stands (at 1 0) _ _ k l (same_Some _ _ a) (same_Some _ _ b) (Uncollected pair true refl refl none_at_once)
    calls (suc zero) (suc zero) k l a b = stands (at 1 1) _ _ k l (same_Some _ _ a) (same_Some _ _ b) (Same refl)
    calls (suc zero) (suc (suc i)) k l a b = cc
    calls (suc (suc p)) i k l a b = cc
