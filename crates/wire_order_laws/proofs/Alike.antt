-- Plans that agree event by event in all that findings rest on have the same findings.
use Rattle.std.proofs.Common.{◌≡◌, ℕ, suc, List, Bool, true, false, ◌==◌, nat_le, Some, is_some, ◌⊎◌, inl, inr, sym, ap, ◌∙◌, subst}
use Rattle.std.specs.List.{list_all, list_any}
use Rattle.wire_runs.specs.Plan.{Plan, Event, Kind, Put, Commit, Arrive, Get, GetNow, Fixed, kind, event_count, node_of, same_node, admits}
use Rattle.wire_runs.specs.Puts.{stored, put_count, scope_of}
use Rattle.wire_runs.specs.Fences.{arrivals, is_full, collects, is_collecting, has_node}
use Rattle.wire_runs.specs.Names.{takes_name, writes_name, calls_name}
use Rattle.wire_runs.specs.Order.{Stores, IsArrival, PublishesOnce, Edge, Follows, Meets, Feeds, Announces, may_come, Live, live, Before, edge, further}
use Rattle.wire_runs.specs.Races.{Delivery, ByFence, ByGet, IsOf, FenceDelivers, GetDelivers, Delivers, ComesSurely, IsUnordered, IsPutOnce, IsRewrite, IsNodeRace, IsDeliveryRace, IsNameRace, IsSettled}
use Rattle.wire_order_laws.specs.Unread.{GetsAtOnce}

-- kinds that both plans have alike
abbrev pub IsPlain : Kind → Type 0
IsPlain (Put key scope) = ⊥
IsPlain Commit = ⊥
IsPlain (Arrive members collect) = ⊥
IsPlain (Fixed reply) = ⊥
IsPlain _ = Unit {0}

-- what b has as a has it, of the keys that are got
pub record Agrees (is_got : ℕ → ℕ → Type 0) (a b : Plan) : Type 0 where
  pub counts : (p : ℕ) → event_count a p ≡ event_count b p
  pub nodes : (p : ℕ) → node_of a p ≡ node_of b p
  pub keeps : a.keep ≡ b.keep
  pub plain : (x : Event) (k : Kind) → IsPlain k → kind a x ≡ Some k → kind b x ≡ Some k
  pub arrives : (x : Event) (members : List ℕ) (collect : Bool) → kind a x ≡ Some (Arrive members collect) → (says : Bool) × (kind b x ≡ Some (Arrive members says))
  pub arrivals_are : (p : ℕ) (members : List ℕ) (n : ℕ) → arrivals a p members n ≡ arrivals b p members n
  pub got : (x : Event) (p key : ℕ) → (kind a x ≡ Some (Get p key)) ⊎ (kind a x ≡ Some (GetNow p key)) → is_got p key
  pub stores : (p key n : ℕ) → is_got p key → stored a p key n ≡ stored b p key n
  pub puts : (p key n : ℕ) → is_got p key → put_count a p key n ≡ put_count b p key n
  pub scopes : (p key n put : ℕ) → is_got p key → stored a p key n ≡ Some put → scope_of a p put ≡ scope_of b p put
  pub collect : GetsAtOnce a → (p : ℕ) (members : List ℕ) (j n : ℕ) → collects a p members j n ≡ collects b p members j n
  pub takes : (name : ℕ) (x : Event) → takes_name a name x (kind a x) ≡ takes_name b name x (kind b x)
  pub writes : (name : ℕ) (x : Event) → writes_name a name x (kind a x) ≡ writes_name b name x (kind b x)
  pub named : (name : ℕ) (x : Event) → calls_name a name x (kind a x) ≡ calls_name b name x (kind b x)
  pub may : (y : Event) → may_come a y (kind a y) ≡ may_come b y (kind b y)

module _ (is_got : ℕ → ℕ → Type 0) (a b : Plan) (there : Agrees is_got a b) (back : Agrees is_got b a) where
  arrival_there : (z : Event) (members : List ℕ) (j : ℕ) → IsArrival a members j z → IsArrival b members j z
  arrival_there z members j i =
      let c = there.arrives z members i.collect i.is in
      record { collect = c.0; is = c.1; member = i.member; nth = sym (there.arrivals_are z.proc members (suc z.at)) ∙ i.nth }

  once_there : (x : Event) (name : ℕ) → PublishesOnce a x name → PublishesOnce b x name
  once_there x name o = record { is = there.plain x _ tt o.is; only = λ y is. o.only y (back.plain y _ tt is); stays = λ y. sym (there.takes name y) ∙ o.stays y }

  stores_there : (x : Event) (key : ℕ) → is_got x.proc key → Stores a x key → Stores b x key
  stores_there x key g s = record {
    nothing_before = sym (there.stores x.proc key x.at g) ∙ s.nothing_before;
    something_after = ap is_some (sym (there.stores x.proc key (suc x.at) g)) ∙ s.something_after;
  }

  put_once_there : (p key : ℕ) → is_got p key → IsPutOnce a p key → IsPutOnce b p key
  put_once_there p key g once = ap (put_count b p key) (sym (there.counts p)) ∙ sym (there.puts p key (event_count a p) g) ∙ once

  edge_there : {x y : Event} → Edge a x y → Edge b x y
  edge_there (Follows same next) = Follows same next
  edge_there {x = x} {y = y} (Meets members is arrives) =
      Meets members (there.plain y _ tt is) (subst (λ j. IsArrival b members j x) (there.arrivals_are y.proc members y.at) (arrival_there x members _ arrives))
  edge_there {x = x} {y = y} (Feeds key is other once stores) =
      let g = there.got y x.proc key (inl is) in
      Feeds key (there.plain y _ tt is) other (put_once_there x.proc key g once) (stores_there x key g stores)
  edge_there {x = x} {y = y} (Announces name is once) = Announces name (there.plain y _ tt is) (once_there x name once)

  of_there : (d : Delivery) (z : Event) → IsOf a d z → IsOf b d z
  of_there (ByFence members j) z o = arrival_there z members j o
  of_there (ByGet get) z o = o

module _ (is_got : ℕ → ℕ → Type 0) (a b : Plan) (there : Agrees is_got a b) (back : Agrees is_got b a) where
  live_there : {y : Event} → Live a y → Live b y
  live_there {y = y} (live may from) = live (sym (there.may y) ∙ may) (λ x e. live_there (from x (edge_there is_got b a back there e)))

  chain_there : {x y : Event} → Before a x y → Before b x y
  chain_there (edge l e m) = edge (live_there l) (edge_there is_got a b there back e) (live_there m)
  chain_there (further c e m) = further (chain_there c) (edge_there is_got a b there back e) (live_there m)

  full_there : (members : List ℕ) (j : ℕ) → is_full a members j ≡ is_full b members j
  full_there members j = ap (λ f. list_all f members) (λ t m. nat_le j ((there.arrivals_are m members (event_count a m) ∙ ap (arrivals b m members) (there.counts m)) t))

  collecting_there : GetsAtOnce a → (members : List ℕ) (j : ℕ) → is_collecting a members j ≡ is_collecting b members j
  collecting_there now members j = ap (λ f. list_all f members) (λ t m. (there.collect now m members j (event_count a m) ∙ ap (collects b m members j) (there.counts m)) t)

  node_there : (members : List ℕ) (node : ℕ) → has_node a members node ≡ has_node b members node
  node_there members node = ap (λ f. list_any f members) (λ t m. there.nodes m t == node)

  module _ (owner key : ℕ) (g : is_got owner key) (now : GetsAtOnce a) where
    committed_there : (n put : ℕ) → stored a owner key n ≡ Some put → stored b owner key n ≡ Some put
    committed_there n put is = sym (there.stores owner key n g) ∙ is

    admitted_there : (n put : ℕ) → stored a owner key n ≡ Some put → admits (scope_of a owner put) false ≡ true → admits (scope_of b owner put) false ≡ true
    admitted_there n put is h = ap (λ s. admits s false) (sym (there.scopes owner key n put g is)) ∙ h

    delivers_there : (node : ℕ) (d : Delivery) → Delivers a owner key node d → Delivers b owner key node d
    delivers_there node (ByGet get) d =
        let by : GetDelivers a owner key node get = d.brings_it in
        record {
          brings_it = record {
            away = record {
              keeps = sym there.keeps ∙ by.away.keeps;
              is = there.plain get _ tt by.away.is;
              put = by.away.put;
              committed = ap (stored b owner key) (sym (there.counts owner)) ∙ committed_there (event_count a owner) by.away.put by.away.committed;
              admitted = admitted_there (event_count a owner) by.away.put by.away.committed by.away.admitted;
            };
            there = sym (there.nodes get.proc) ∙ by.there;
          };
          all_live = λ z o. live_there (d.all_live z o);
        }
    delivers_there node (ByFence members j) d =
        let by : FenceDelivers a owner key node members j = d.brings_it in
        record {
          brings_it = record {
            away = record {
              full = sym (full_there members j) ∙ by.away.full;
              collecting = sym (collecting_there now members j) ∙ by.away.collecting;
              member = by.away.member;
              at = by.away.at;
              put = by.away.put;
              arrival = arrival_there is_got a b there back (record { proc = owner; at = by.away.at }) members j by.away.arrival;
              committed = committed_there by.away.at by.away.put by.away.committed;
              admitted = admitted_there by.away.at by.away.put by.away.committed by.away.admitted;
            };
            reaches = sym (node_there members node) ∙ by.reaches;
          };
          all_live = λ z o. live_there (d.all_live z (of_there is_got b a back there (ByFence members j) z o));
        }

    sure_there : (node : ℕ) (get : Event) → ComesSurely a owner key node get → ComesSurely b owner key node get
    sure_there node get s = record {
      delivery = s.delivery;
      delivers = delivers_there node s.delivery s.delivers;
      all_before = λ z o. chain_there (s.all_before z (of_there is_got b a back there s.delivery z o));
    }

module _ (is_got : ℕ → ℕ → Type 0) (a b : Plan) (there : Agrees is_got a b) (back : Agrees is_got b a) where
  unordered_there : (x y : Event) → IsUnordered a x y → IsUnordered b x y
  unordered_there x y u = record {
    live_x = live_there is_got a b there back u.live_x;
    live_y = live_there is_got a b there back u.live_y;
    not_before = λ c. u.not_before (chain_there is_got b a back there c);
    not_after = λ c. u.not_after (chain_there is_got b a back there c);
  }

  same_node_there : (p q : ℕ) → same_node b p q ≡ same_node a p q
  same_node_there p q = ap (λ n. n == node_of b q) (sym (there.nodes p)) ∙ ap (λ n. node_of a p == n) (sym (there.nodes q))

  node_race_there : (c g : Event) (key : ℕ) → IsNodeRace a c g key → IsNodeRace b c g key
  node_race_there c g key r =
      let got = there.got g c.proc key (inr r.near.is) in
      record {
        near = record {
          is = there.plain g _ tt r.near.is;
          another = r.near.another;
          once = put_once_there is_got a b there back c.proc key got r.near.once;
          stores = stores_there is_got a b there back c key got r.near.stores;
          unordered = unordered_there c g r.near.unordered;
        };
        node = same_node_there c.proc g.proc ∙ r.node;
      }

  delivery_race_there : (source get : Event) (owner key : ℕ) → IsDeliveryRace a source get owner key → IsDeliveryRace b source get owner key
  delivery_race_there source get owner key r =
      let got = there.got get owner key (inr r.is) in
      let now : GetsAtOnce a = (get, owner, key, r.is) in
      let is = there.plain get _ tt r.is in
      let node = there.nodes get.proc in
      record {
        is = is;
        other = same_node_there owner get.proc ∙ r.other;
        once = put_once_there is_got a b there back owner key got r.once;
        get_live = live_there is_got a b there back r.get_live;
        not_sure = λ s. r.not_sure (sure_there is_got b a back there owner key got (get, owner, key, is) (node_of a get.proc) get (subst (λ n. ComesSurely b owner key n get) (sym node) s));
        delivery = r.delivery;
        delivers = subst (λ n. Delivers b owner key n r.delivery) node (delivers_there is_got a b there back owner key got now (node_of a get.proc) r.delivery r.delivers);
        before_none = λ z o c. r.before_none z (of_there is_got b a back there r.delivery z o) (chain_there is_got b a back there c);
        of_it = of_there is_got a b there back r.delivery source r.of_it;
        not_before = λ c. r.not_before (chain_there is_got b a back there c);
        first = λ z o not. r.first z (of_there is_got b a back there r.delivery z o) (λ c. not (chain_there is_got a b there back c));
      }

  name_race_there : (x y : Event) (name : ℕ) → IsNameRace a x y name → IsNameRace b x y name
  name_race_there x y name r = record {
    x_writes = sym (there.writes name x) ∙ r.x_writes;
    y_calls = sym (there.named name y) ∙ r.y_calls;
    others = r.others;
    not_once = λ once is. r.not_once (once_there is_got b a back there x name once) (back.plain y _ tt is);
    unordered = unordered_there x y r.unordered;
  }

  pub settled_alike : ((x y : Event) → IsRewrite a x y → IsRewrite b x y) → IsSettled b → IsSettled a
  settled_alike rewrites settled = record {
    no_rewrite = λ x y r. settled.no_rewrite x y (rewrites x y r);
    no_node_race = λ c g key r. settled.no_node_race c g key (node_race_there c g key r);
    no_delivery_race = λ source get owner key r. settled.no_delivery_race source get owner key (delivery_race_there source get owner key r);
    no_name_race = λ x y name r. settled.no_name_race x y name (name_race_there x y name r);
  }
