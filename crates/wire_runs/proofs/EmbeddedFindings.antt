-- What is found in the large plan among images is found in the small one.
use Rattle.std.proofs.Common.{◌≡◌, ℕ, ◌<◌, ◌≤◌, List, true, false, Some, refl, sym, ap, ◌∙◌, subst, arith, leb-true}
use Rattle.std.specs.Prelude.{option_map}
use Rattle.wire_types.specs.declared.Scope.{Scope}
use Rattle.wire_runs.specs.Plan.{Plan, Event, Kind, Put, Get, GetNow, kind, event_count, process_count, node_of, same_node, admits}
use Rattle.wire_runs.specs.Puts.{own, stored, put_count, scope_in, scope_of}
use Rattle.wire_runs.specs.Fences.{is_member, is_full}
use Rattle.wire_runs.specs.Order.{Stores, IsArrival, Live, Before}
use Rattle.wire_runs.specs.Races.{IsRewrite, IsUnordered, IsPutOnce, IsNodeRace, Delivery, ByFence, ByGet, IsOf, FenceDelivers, GetDelivers, Delivers, ComesSurely, IsDeliveryRace, IsNameRace, IsSettled}
use Rattle.wire_runs.specs.Embeddings.{Renaming, image, image_kind, IsNameOf, IsSetOf, IsEmbedding, IsKeptDelivery, EmbeddingsKeepFindings}
use Rattle.wire_runs.proofs.Basics.{list_all_at_member, arrivals_step, event_within, process_within}
use Rattle.wire_runs.proofs.Brought.{nth_arrival}
use Rattle.wire_runs.proofs.Histories.{before_live}
use Rattle.wire_runs.proofs.Arrivals.{one_arrival, left_first, left_full, left_arrived, node_among, mate_on, stored_is_put}
use Rattle.wire_runs.proofs.Images.{mapped_some, image_order, event_back, own_none, stored_end, puts_end, stores_back, full_back, collecting_back, arrival_into, arrival_back, writes_back, calls_back}
use Rattle.wire_runs.proofs.EmbeddedOrder.{chain_into, live_back}
use Rattle.wire_runs.proofs.Deliveries.{none_delivers}

abbrev key_in : Kind → ℕ
key_in (Put key scope) = key
key_in (Get owner key) = key
key_in (GetNow owner key) = key
key_in _ = 0

abbrev owner_in : Kind → ℕ
owner_in (Get owner key) = owner
owner_in (GetNow owner key) = owner
owner_in _ = 0

-- the kinds that have these images
put_back : (to : Renaming) (k : Kind) (key : ℕ) (scope : Scope) → image_kind to k ≡ Put key scope → (own_key : ℕ) × (to.key own_key ≡ key) × (k ≡ Put own_key scope)
put_back to (Put own_key own_scope) key scope h = (own_key, ap key_in h, ap (λ c. Put own_key (scope_in (Some c))) h)
put_back to _ key scope h = cc

get_back : (to : Renaming) (k : Kind) (owner key : ℕ) → image_kind to k ≡ Get owner key → (p : ℕ) × (own_key : ℕ) × (to.process p ≡ owner) × (to.key own_key ≡ key) × (k ≡ Get p own_key)
get_back to (Get p own_key) owner key h = (p, own_key, ap owner_in h, ap key_in h, refl)
get_back to _ owner key h = cc

pub now_back : (to : Renaming) (k : Kind) (owner key : ℕ) → image_kind to k ≡ GetNow owner key → (p : ℕ) × (own_key : ℕ) × (to.process p ≡ owner) × (to.key own_key ≡ key) × (k ≡ GetNow p own_key)
now_back to (GetNow p own_key) owner key h = (p, own_key, ap owner_in h, ap key_in h, refl)
now_back to _ owner key h = cc

-- a member of a full fence at which somebody arrives is one of the plan's processes
pub mate_within : (plan : Plan) (members : List ℕ) (j : ℕ) (z : Event) (m : ℕ) → is_full plan members j ≡ true → IsArrival plan members j z → is_member members m ≡ true → m < process_count plan
mate_within plan members j z m full a i =
    let enough = leb-true _ _ (list_all_at_member _ members m full i) in
    let grown = arrivals_step plan z.proc members a.collect z.at a.is in
    let nth = a.nth in
    let w = nth_arrival plan m members j (event_count plan m) (omega (arith, grown, nth)) enough i in
    process_within plan m w.0 _ w.1.is

module _ (to : Renaming) (small large : Plan) (e : IsEmbedding to small large) where
  unordered_back : (x y : Event) → IsUnordered large (image to x) (image to y) → IsUnordered small x y
  unordered_back x y u = record {
    live_x = live_back to small large e x u.live_x;
    live_y = live_back to small large e y u.live_y;
    not_before = λ b. u.not_before (chain_into to small large e b u.live_y);
    not_after = λ b. u.not_after (chain_into to small large e b u.live_x);
  }

  rewrite_back : (x y : Event) → IsRewrite large (image to x) (image to y) → IsRewrite small x y
  rewrite_back x y r =
      let kx = event_back to small large e x _ r.first_is in
      let ky = event_back to small large e y _ r.later_is in
      let px = put_back to kx.0 r.key r.first_scope kx.2 in
      let py = put_back to ky.0 r.key r.later_scope ky.2 in
      let is : kind small x ≡ Some (Put px.0 r.first_scope) = kx.1 ∙ ap Some px.2 in
      let later_is : kind small y ≡ Some (Put py.0 r.later_scope) = ky.1 ∙ ap Some py.2 in
      let one : py.0 ≡ px.0 = e.one_key _ _ (y, _, later_is, refl) (x, _, is, refl) (py.1 ∙ sym px.1) in
      let same = e.one_process x.proc y.proc r.same in
      let within = event_within small x.proc x.at _ is in
      record {
        key = px.0;
        first_scope = r.first_scope;
        later_scope = r.later_scope;
        first_is = is;
        later_is = later_is ∙ ap (λ k. Some (Put k r.later_scope)) one;
        first = own_none to small large e x.proc px.0 x.at (x, _, is, refl) (omega (arith, within)) (ap (λ k. own large (to.process x.proc) k (to.place x.proc x.at)) px.1 ∙ r.first);
        same = same;
        later = image_order to small large e x y same r.later;
      }

  name_race_back : (x y : Event) (name : ℕ) → IsNameOf small name → IsNameRace large (image to x) (image to y) (to.name name) → IsNameRace small x y name
  name_race_back x y name u r = record {
    x_writes = writes_back to small large e name u x r.x_writes;
    y_calls = calls_back to small large e name u y r.y_calls;
    others = λ s. r.others (ap to.process s);
    not_once = λ once is. r.not_once (e.once x name once) (e.kinds_agree y _ is);
    unordered = unordered_back x y r.unordered;
  }

  node_race_back : (commit get : Event) (key : ℕ) → IsNodeRace large (image to commit) (image to get) key → same_node small commit.proc get.proc ≡ true →
      (own_key : ℕ) × (to.key own_key ≡ key) × IsNodeRace small commit get own_key
  node_race_back commit get key r together =
      let k = event_back to small large e get _ r.near.is in
      let g = now_back to k.0 (to.process commit.proc) key k.2 in
      let owner : g.0 ≡ commit.proc = e.one_process _ _ g.2 in
      let is : kind small get ≡ Some (GetNow commit.proc g.1) = k.1 ∙ ap Some (g.4 ∙ ap (λ p. GetNow p g.1) owner) in (
        g.1,
        g.3,
        record {
          near = record {
            is = is;
            another = λ s. r.near.another (ap to.process s);
            once = sym (puts_end to small large e commit.proc g.1 (get, _, is, refl)) ∙ ap (λ n. put_count large (to.process commit.proc) n (event_count large (to.process commit.proc))) g.3 ∙ r.near.once;
            stores = stores_back to small large e commit g.1 (get, _, is, refl) (subst (λ n. Stores large (image to commit) n) (sym g.3) r.near.stores);
            unordered = unordered_back commit get r.near.unordered;
          };
          node = together;
        },
      )

  -- the put that is stored
  pub scope_same : (p key n put : ℕ) → stored small p key n ≡ Some put → scope_of large (to.process p) (to.place p put) ≡ scope_of small p put
  scope_same p key n put is =
      let w = stored_is_put small p key n put is in
      ap scope_in (e.kinds_agree (record { proc = p; at = put }) _ w.1) ∙ sym (ap scope_in w.1)

  -- a get-now whose image is live
  module _ (owner key : ℕ) (get : Event) (is : kind small get ≡ Some (GetNow owner key)) (live_get : Live large (image to get)) where
    -- a delivery that surely comes first in the small plan surely comes first in the large one
    pub sure_into : (d : Delivery) → Delivers small owner key (node_of small get.proc) d → ((z : Event) → IsOf small d z → Before small z get) →
        ComesSurely large (to.process owner) (to.key key) (node_of large (to.process get.proc)) (image to get)
    sure_into (ByGet g) d before =
        let b : GetDelivers small owner key (node_of small get.proc) g = d.brings_it in
        let chain = chain_into to small large e (before g refl) live_get in
        record {
          delivery = ByGet (image to g);
          delivers = record {
            brings_it = record {
              away = record {
                keeps = e.keeps ∙ b.away.keeps;
                is = e.kinds_agree g _ b.away.is;
                put = to.place owner b.away.put;
                committed = stored_end to small large e owner key (get, _, is, refl) ∙ ap (option_map (to.place owner)) b.away.committed;
                admitted = ap (λ s. admits s false) (scope_same owner key _ b.away.put b.away.committed) ∙ b.away.admitted;
              };
              there = e.together g.proc get.proc (process_within small g.proc g.at _ b.away.is) (process_within small get.proc get.at _ is) b.there;
            };
            all_live = λ z s. subst (λ v. Live large v) (sym s) (before_live chain);
          };
          all_before = λ z s. subst (λ v. Before large v (image to get)) (sym s) chain;
        }
    sure_into (ByFence members j) d before =
        let b : FenceDelivers small owner key (node_of small get.proc) members j = d.brings_it in
        let a = b.away.arrival in
        let mine : Event = record { proc = owner; at = b.away.at } in
        let fence : IsSetOf small members = (mine, _, a.is, refl) in
        let chain = chain_into to small large e (before mine a) live_get in
        let left = left_first (to.members members) j (arrival_into to small large e mine members j a) chain in
        let full = left_full large (to.members members) j (image to get) left in
        let mate = mate_on small members (node_of small get.proc) b.reaches in
        let within = event_within small owner b.away.at _ a.is in
        record {
          delivery = ByFence (to.members members) j;
          delivers = record {
            brings_it = record {
              away = record {
                full = full;
                collecting = e.all_collect members j fence full b.away.collecting;
                member = e.member members owner fence ∙ b.away.member;
                at = to.place owner b.away.at;
                put = to.place owner b.away.put;
                arrival = arrival_into to small large e mine members j a;
                committed = e.stores owner key b.away.at (get, _, is, refl) (omega (arith, within)) ∙ ap (option_map (to.place owner)) b.away.committed;
                admitted = ap (λ s. admits s false) (scope_same owner key _ b.away.put b.away.committed) ∙ b.away.admitted;
              };
              reaches = node_among large (to.members members) (to.process mate.0) _ (e.member members mate.0 fence ∙ mate.1)
                  (e.together mate.0 get.proc (mate_within small members j mine mate.0 (full_back to small large e members j fence full) a mate.1) (process_within small get.proc get.at _ is) mate.2);
            };
            all_live = λ z c. before_live (left_arrived large (to.members members) j (image to get) left z c);
          };
          all_before = left_arrived large (to.members members) j (image to get) left;
        }

    -- in a settled plan the get-now is before some event of each delivery, where surely none comes
    none_comes : IsSettled small → same_node small owner get.proc ≡ false → IsPutOnce large (to.process owner) (to.key key) →
        (ComesSurely large (to.process owner) (to.key key) (node_of large (to.process get.proc)) (image to get) → ⊥) →
        (d : Delivery) → Delivers small owner key (node_of small get.proc) d → ((z : Event) → IsOf small d z → Before small get z → ⊥) → ⊥
    none_comes settled away once not_sure =
        none_delivers small settled get owner key is (live_back to small large e get live_get) away (sym (puts_end to small large e owner key (get, _, is, refl)) ∙ once)
        (λ s. not_sure (sure_into s.delivery s.delivers s.all_before))

    -- a delivery of the large plan that is kept is one of the small plan
    committed_back : (n put : ℕ) → n ≤ event_count small owner → stored large (to.process owner) (to.key key) (to.place owner n) ≡ Some put → admits (scope_of large (to.process owner) put) false ≡ true →
        (u : ℕ) × (stored small owner key n ≡ Some u) × (admits (scope_of small owner u) false ≡ true)
    committed_back n put le committed admitted =
        let u = mapped_some (to.place owner) (stored small owner key n) put (sym (e.stores owner key n (get, _, is, refl) le) ∙ committed) in
        (u.0, u.1, ap (λ s. admits s false) (sym (scope_same owner key n u.0 u.1)) ∙ ap (λ v. admits (scope_of large (to.process owner) v) false) u.2 ∙ admitted)

    pub get_delivers_back : (x : Event) → node_of small x.proc ≡ node_of small get.proc → Delivers large (to.process owner) (to.key key) (node_of large (to.process get.proc)) (ByGet (image to x)) →
        Delivers small owner key (node_of small get.proc) (ByGet x)
    get_delivers_back x there d =
        let b : GetDelivers large (to.process owner) (to.key key) (node_of large (to.process get.proc)) (image to x) = d.brings_it in
        let k = event_back to small large e x _ b.away.is in
        let g = get_back to k.0 (to.process owner) (to.key key) k.2 in
        let c = committed_back (event_count small owner) b.away.put (omega arith) (ap (stored large (to.process owner) (to.key key)) (e.ends owner) ∙ b.away.committed) b.away.admitted in
        let gets : kind small x ≡ Some (Get owner g.1) = k.1 ∙ ap Some (g.4 ∙ ap (λ p. Get p g.1) (e.one_process _ _ g.2)) in
        record {
          brings_it = record {
            away = record {
              keeps = sym e.keeps ∙ b.away.keeps;
              is = gets ∙ ap (λ n. Some (Get owner n)) (e.one_key _ _ (x, _, gets, refl) (get, _, is, refl) g.3);
              put = c.0;
              committed = c.1;
              admitted = c.2;
            };
            there = there;
          };
          all_live = λ z s. subst (λ v. Live small v) (sym s) (live_back to small large e x (d.all_live (image to x) refl));
        }

    pub fence_delivers_back : (members : List ℕ) (j at mate : ℕ) → IsArrival small members j (record { proc = owner; at = at }) → is_member (to.members members) (to.process mate) ≡ true →
        node_of small mate ≡ node_of small get.proc → Delivers large (to.process owner) (to.key key) (node_of large (to.process get.proc)) (ByFence (to.members members) j) →
        Delivers small owner key (node_of small get.proc) (ByFence members j)
    fence_delivers_back members j at mate a mate_in there d =
        let b : FenceDelivers large (to.process owner) (to.key key) (node_of large (to.process get.proc)) (to.members members) j = d.brings_it in
        let mine : Event = record { proc = owner; at = at } in
        let fence : IsSetOf small members = (mine, _, a.is, refl) in
        let one = one_arrival large (to.members members) j _ (image to mine) b.away.arrival (arrival_into to small large e mine members j a) refl in
        let within = event_within small owner at _ a.is in
        let c = committed_back at b.away.put (omega (arith, within)) (ap (λ (v : Event). stored large (to.process owner) (to.key key) v.at) (sym one) ∙ b.away.committed) b.away.admitted in
        record {
          brings_it = record {
            away = record {
              full = full_back to small large e members j fence b.away.full;
              collecting = collecting_back to small large e members j fence b.away.collecting;
              member = a.member;
              at = at;
              put = c.0;
              arrival = a;
              committed = c.1;
              admitted = c.2;
            };
            reaches = node_among small members mate _ (sym (e.member members mate fence) ∙ mate_in) there;
          };
          all_live = λ z i. live_back to small large e z (d.all_live (image to z) (arrival_into to small large e z members j i));
        }

  delivery_race_back : (source get : Event) (owner key : ℕ) → (race : IsDeliveryRace large source (image to get) (to.process owner) key) → same_node small owner get.proc ≡ false →
      IsKeptDelivery to small large owner (node_of small get.proc) race.delivery → IsSettled small → ⊥
  delivery_race_back source get owner key race away kept settled =
      let k = event_back to small large e get _ race.is in
      let g = now_back to k.0 (to.process owner) key k.2 in
      let is : kind small get ≡ Some (GetNow owner g.1) = k.1 ∙ ap Some (g.4 ∙ ap (λ p. GetNow p g.1) (e.one_process _ _ g.2)) in
      let once : IsPutOnce large (to.process owner) (to.key g.1) = subst (λ n. IsPutOnce large (to.process owner) n) (sym g.3) race.once in
      let not_sure = subst (λ n. ComesSurely large (to.process owner) n (node_of large (to.process get.proc)) (image to get) → ⊥) (sym g.3) race.not_sure in
      let denied = none_comes owner g.1 get is race.get_live settled away once not_sure in
      go g.1 is race.get_live denied race.delivery (subst (λ n. Delivers large (to.process owner) n (node_of large (to.process get.proc)) race.delivery) (sym g.3) race.delivers) race.before_none kept
    where
      none_back : (z : Event) → Live large (image to z) → (Before large (image to get) (image to z) → ⊥) → Before small get z → ⊥
      none_back z l none b = none (chain_into to small large e b l)

      go : (own_key : ℕ) → kind small get ≡ Some (GetNow owner own_key) → Live large (image to get) →
          ((d : Delivery) → Delivers small owner own_key (node_of small get.proc) d → ((z : Event) → IsOf small d z → Before small get z → ⊥) → ⊥) → (d : Delivery) →
          Delivers large (to.process owner) (to.key own_key) (node_of large (to.process get.proc)) d → ((z : Event) → IsOf large d z → Before large (image to get) z → ⊥) →
          IsKeptDelivery to small large owner (node_of small get.proc) d → ⊥
      go own_key is live_get denied (ByGet g) d none kept =
          let there = subst (λ v. Delivers large (to.process owner) (to.key own_key) (node_of large (to.process get.proc)) (ByGet v)) (sym kept.1) d in
          denied (ByGet kept.0) (get_delivers_back owner own_key get is live_get kept.0 kept.2 there)
          (λ z s. none_back z (there.all_live (image to z) (ap (image to) s)) (none (image to z) (ap (image to) s ∙ kept.1)))
      go own_key is live_get denied (ByFence members j) d none kept =
          let mine : Event = record { proc = owner; at = kept.own_at } in
          let a = arrival_back to small large e mine members j kept.arrival in
          let there = subst (λ ms. Delivers large (to.process owner) (to.key own_key) (node_of large (to.process get.proc)) (ByFence ms j)) (sym a.1) d in
          denied (ByFence a.0 j)
          (fence_delivers_back owner own_key get is live_get a.0 j kept.own_at kept.mate a.2 (subst (λ ms. is_member ms (to.process kept.mate) ≡ true) (sym a.1) kept.mate_is_member) kept.mate_there there)
          (λ z i.
          let i' = arrival_into to small large e z a.0 j i in
          none_back z (there.all_live (image to z) i') (none (image to z) (subst (λ ms. IsArrival large ms j (image to z)) a.1 i')))

pub embeddings_keep_findings : EmbeddingsKeepFindings
embeddings_keep_findings to small large e = record {
  rewrites = rewrite_back to small large e;
  name_races = name_race_back to small large e;
  node_races = node_race_back to small large e;
  delivery_races = delivery_race_back to small large e;
}
