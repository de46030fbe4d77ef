-- Names that order nothing hide no finding.
use Rattle.std.proofs.Common.{◌≡◌, ℕ, List, true, false, ◌==◌, Option, Some, None, inl, inr, refl, sym, ap, ◌∙◌, subst, arith}
use Rattle.std.specs.Prelude.{option_map}
use Rattle.std.proofs.lemmas.Bool.{true≢false}
use Rattle.wire_runs.specs.Plan.{GetNow, Plan, Event, Kind, kind, node_of, same_node, admits}
use Rattle.wire_runs.specs.Names.{writes_name, calls_name}
use Rattle.wire_runs.specs.Order.{IsArrival, Live, Before}
use Rattle.wire_runs.specs.Races.{Delivery, ByFence, ByGet, IsOf, FenceDelivers, GetDelivers, Delivers, ComesSurely, IsUnordered, IsDeliveryRace, IsSettled}
use Rattle.wire_runs.specs.Embeddings.{Renaming, image, IsKeyOf, IsSetOf, IsNameOf}
use Rattle.wire_runs.specs.Parts.{Piece, place_in, in_place}
use Rattle.wire_runs.proofs.Basics.{event_within}
use Rattle.wire_runs.proofs.Due.{place_path}
use Rattle.wire_runs.proofs.Arrivals.{mate_on, node_among, written_name}
use Rattle.wire_runs.proofs.Images.{image_later, stored_end, puts_end, stores_into, arrival_into, writes_same, calls_same}
use Rattle.wire_runs.proofs.EmbeddedOrder.{chain_into}
use Rattle.wire_runs.proofs.EmbeddedFindings.{scope_same, get_delivers_back, fence_delivers_back}
use Rattle.wire_order_laws.specs.OrderThere.{AddsNoOrder, OrderThereFinds}
use Rattle.wire_order_laws.proofs.LessOrder.{less_order_finds}
use Rattle.wire_order_laws.proofs.AddedNames.{less, e as stands_in, spot as spot_of, kind_into as kind_there, kind_back as kind_here, once_back as once_here, full_same as full_there, arrival_spot as arrival_of, chain_back as chain_here, live_into as live_there}

module _ (small large : Plan) (pieces : ℕ → List Piece) (adds : AddsNoOrder small large pieces) where
  abbrev to : Renaming
  to = in_place pieces

  unordered_into : (x y : Event) → IsUnordered small x y → IsUnordered large (image to x) (image to y)
  unordered_into x y u = record {
    live_x = live_there small large pieces adds x u.live_x;
    live_y = live_there small large pieces adds y u.live_y;
    not_before = λ b. u.not_before (chain_here small large pieces adds x y b);
    not_after = λ b. u.not_after (chain_here small large pieces adds y x b);
  }

  same_node_same : (p q : ℕ) → same_node large p q ≡ same_node small p q
  same_node_same p q = ap (λ n. n == node_of large q) (adds.nodes p) ∙ ap (λ n. node_of small p == n) (adds.nodes q)

  writes_into : (name : ℕ) → IsNameOf small name → (x : Event) → writes_name small name x (kind small x) ≡ true → writes_name large name (image to x) (kind large (image to x)) ≡ true
  writes_into name u x h = go (kind small x) refl h
    where
      go : (o : Option Kind) → kind small x ≡ o → writes_name small name x o ≡ true → writes_name large name (image to x) (kind large (image to x)) ≡ true
      go None is h = absurd (true≢false (sym h))
      go (Some k) is h = ap (writes_name large name (image to x)) ((stands_in small large pieces adds).kinds_agree x k is) ∙ writes_same to small large (stands_in small large pieces adds) name u x k is ∙ h

  calls_into : (name : ℕ) → IsNameOf small name → (x : Event) → calls_name small name x (kind small x) ≡ true → calls_name large name (image to x) (kind large (image to x)) ≡ true
  calls_into name u x h = go (kind small x) refl h
    where
      go : (o : Option Kind) → kind small x ≡ o → calls_name small name x o ≡ true → calls_name large name (image to x) (kind large (image to x)) ≡ true
      go None is h = absurd (true≢false (sym h))
      go (Some k) is h = ap (calls_name large name (image to x)) ((stands_in small large pieces adds).kinds_agree x k is) ∙ calls_same to small large (stands_in small large pieces adds) name u x k is ∙ h

  -- a get-now of the small plan, live
  module _ (owner key : ℕ) (get : Event) (is : kind small get ≡ Some (GetNow owner key)) (live_get : Live small get) where
    key_is : IsKeyOf small key
    key_is = (get, _, is, refl)

    node_here : node_of large get.proc ≡ node_of small get.proc
    node_here = adds.nodes get.proc

    -- a delivery that surely comes first in the large plan surely comes first in the small one
    sure_back : (d : Delivery) → Delivers large owner key (node_of large get.proc) d → ((z : Event) → IsOf large d z → Before large z (image to get)) →
        ComesSurely small owner key (node_of small get.proc) get
    sure_back (ByGet g) d before =
        let b : GetDelivers large owner key (node_of large get.proc) g = d.brings_it in
        elim (spot_of small large pieces adds g _ b.away.is) [
          | inl x ↦ (
              let there : node_of small x.0.proc ≡ node_of small get.proc = sym (adds.nodes x.0.proc) ∙ ap (λ (v : Event). node_of large v.proc) x.1 ∙ b.there ∙ node_here in
              let d' = subst (λ v. Delivers large owner key (node_of large get.proc) (ByGet v)) (sym x.1) d in
              record {
                delivery = ByGet x.0;
                delivers = get_delivers_back to small large (stands_in small large pieces adds) owner key get is (live_there small large pieces adds get live_get) x.0 there d';
                all_before = λ z s. subst (λ v. Before small v get) (sym s) (chain_here small large pieces adds x.0 get (subst (λ v. Before large v (image to get)) (sym x.1) (before g refl)));
              })
          | inr r ↦ absurd r
        ]
    sure_back (ByFence members j) d before =
        let b : FenceDelivers large owner key (node_of large get.proc) members j = d.brings_it in
        let mine = arrival_of small large pieces adds (record { proc = owner; at = b.away.at }) members j b.away.arrival in
        let procs : mine.0.proc ≡ owner = ap (λ (v : Event). v.proc) mine.1 in
        let here : IsArrival small members j (record { proc = owner; at = mine.0.at }) = subst (λ v. IsArrival small members j v) (place_path mine.0 owner mine.0.at procs refl) mine.2 in
        let mate = mate_on large members (node_of large get.proc) b.reaches in
        record {
          delivery = ByFence members j;
          delivers = fence_delivers_back to small large (stands_in small large pieces adds) owner key get is (live_there small large pieces adds get live_get) members j mine.0.at mate.0 here mate.1 (sym (adds.nodes mate.0) ∙ mate.2 ∙ node_here) d;
          all_before = λ z a. chain_here small large pieces adds z get (before (image to z) (arrival_into to small large (stands_in small large pieces adds) z members j a));
        }

    -- a delivery of the small plan, in the large one
    abbrev delivery_into : Delivery → Delivery
    delivery_into (ByFence members j) = ByFence members j
    delivery_into (ByGet g) = ByGet (image to g)

    of_into : (d : Delivery) (z : Event) → IsOf small d z → IsOf large (delivery_into d) (image to z)
    of_into (ByFence members j) z a = arrival_into to small large (stands_in small large pieces adds) z members j a
    of_into (ByGet g) z s = ap (image to) s

    of_back : (d : Delivery) (z : Event) → IsOf large (delivery_into d) z → (y : Event) × (image to y ≡ z) × IsOf small d y
    of_back (ByFence members j) z a = arrival_of small large pieces adds z members j a
    of_back (ByGet g) z s = (g, sym s, refl)

    delivers_into : (d : Delivery) → Delivers small owner key (node_of small get.proc) d → Delivers large owner key (node_of large get.proc) (delivery_into d)
    delivers_into (ByGet g) d =
        let b : GetDelivers small owner key (node_of small get.proc) g = d.brings_it in
        record {
          brings_it = record {
            away = record {
              keeps = adds.keeps ∙ b.away.keeps;
              is = kind_there small large pieces adds g _ b.away.is;
              put = place_in (pieces owner) b.away.put;
              committed = stored_end to small large (stands_in small large pieces adds) owner key key_is ∙ ap (option_map (to.place owner)) b.away.committed;
              admitted = ap (λ s. admits s false) (scope_same to small large (stands_in small large pieces adds) owner key _ b.away.put b.away.committed) ∙ b.away.admitted;
            };
            there = adds.nodes g.proc ∙ b.there ∙ sym node_here;
          };
          all_live = λ z s. subst (λ v. Live large v) (sym s) (live_there small large pieces adds g (d.all_live g refl));
        }
    delivers_into (ByFence members j) d =
        let b : FenceDelivers small owner key (node_of small get.proc) members j = d.brings_it in
        let a = b.away.arrival in
        let mine : Event = record { proc = owner; at = b.away.at } in
        let fence : IsSetOf small members = (mine, _, a.is, refl) in
        let mate = mate_on small members (node_of small get.proc) b.reaches in
        let within = event_within small owner b.away.at _ a.is in
        let full = full_there small large pieces adds members j fence ∙ b.away.full in
        record {
          brings_it = record {
            away = record {
              full = full;
              collecting = (stands_in small large pieces adds).all_collect members j fence full b.away.collecting;
              member = b.away.member;
              at = place_in (pieces owner) b.away.at;
              put = place_in (pieces owner) b.away.put;
              arrival = arrival_into to small large (stands_in small large pieces adds) mine members j a;
              committed = (stands_in small large pieces adds).stores owner key b.away.at key_is (omega (arith, within)) ∙ ap (option_map (to.place owner)) b.away.committed;
              admitted = ap (λ s. admits s false) (scope_same to small large (stands_in small large pieces adds) owner key _ b.away.put b.away.committed) ∙ b.away.admitted;
            };
            reaches = node_among large members mate.0 _ mate.1 (adds.nodes mate.0 ∙ mate.2 ∙ sym node_here);
          };
          all_live = λ z c. (let y = arrival_of small large pieces adds z members j c in subst (λ v. Live large v) y.1 (live_there small large pieces adds y.0 (d.all_live y.0 y.2)));
        }

  delivery_race_into : (source get : Event) (owner key : ℕ) → IsDeliveryRace small source get owner key → IsDeliveryRace large (image to source) (image to get) owner key
  delivery_race_into source get owner key r =
      let live_get = live_there small large pieces adds get r.get_live in
      record {
        is = kind_there small large pieces adds get _ r.is;
        other = same_node_same owner get.proc ∙ r.other;
        once = puts_end to small large (stands_in small large pieces adds) owner key (get, _, r.is, refl) ∙ r.once;
        get_live = live_get;
        not_sure = λ s. r.not_sure (sure_back owner key get r.is r.get_live s.delivery s.delivers s.all_before);
        delivery = delivery_into owner key get r.is r.get_live r.delivery;
        delivers = delivers_into owner key get r.is r.get_live r.delivery r.delivers;
        before_none = λ z o b.
            let y = of_back owner key get r.is r.get_live r.delivery z o in
            r.before_none y.0 y.2 (chain_here small large pieces adds get y.0 (subst (λ v. Before large (image to get) v) (sym y.1) b));
        of_it = of_into owner key get r.is r.get_live r.delivery source r.of_it;
        not_before = λ b. r.not_before (chain_here small large pieces adds source get b);
        first = λ z o not.
            let y = of_back owner key get r.is r.get_live r.delivery z o in
            let procs : y.0.proc ≡ z.proc = ap (λ (v : Event). v.proc) y.1 in
            let le = r.first y.0 y.2 (λ b. not (subst (λ v. Before large v (image to get)) y.1 (chain_into to small large (stands_in small large pieces adds) b live_get))) in
            omega (arith, le, procs);
      }

  settled_less : IsSettled large → IsSettled small
  settled_less settled = record {
    no_rewrite = λ x y r.
        let within = event_within small x.proc x.at _ r.first_is in
        settled.no_rewrite (image to x) (image to y) (record {
          key = r.key;
          first_scope = r.first_scope;
          later_scope = r.later_scope;
          first_is = kind_there small large pieces adds x _ r.first_is;
          later_is = kind_there small large pieces adds y _ r.later_is;
          first = (stands_in small large pieces adds).owns x.proc r.key x.at (x, _, r.first_is, refl) (omega (arith, within)) ∙ ap (option_map (to.place x.proc)) r.first;
          same = r.same;
          later = image_later to small large (stands_in small large pieces adds) x y r.same r.later;
        });
    no_node_race = λ c g key r. settled.no_node_race (image to c) (image to g) key (record {
      near = record {
        is = kind_there small large pieces adds g _ r.near.is;
        another = r.near.another;
        once = puts_end to small large (stands_in small large pieces adds) c.proc key (g, _, r.near.is, refl) ∙ r.near.once;
        stores = stores_into to small large (stands_in small large pieces adds) c key (g, _, r.near.is, refl) r.near.stores;
        unordered = unordered_into c g r.near.unordered;
      };
      node = same_node_same c.proc g.proc ∙ r.node;
    });
    no_delivery_race = λ source get owner key r. settled.no_delivery_race (image to source) (image to get) owner key (delivery_race_into source get owner key r);
    no_name_race = λ x y name r.
        let u = written_name small name x r.x_writes in
        settled.no_name_race (image to x) (image to y) name (record {
          x_writes = writes_into name u x r.x_writes;
          y_calls = calls_into name u y r.y_calls;
          others = r.others;
          not_once = λ once is. r.not_once (once_here small large pieces adds x name once) (kind_here small large pieces adds y _ is);
          unordered = unordered_into x y r.unordered;
        });
  }

pub order_there_finds : OrderThereFinds
order_there_finds small large pieces adds = (settled_less small large pieces adds, less_order_finds small large pieces (less small large pieces adds))
