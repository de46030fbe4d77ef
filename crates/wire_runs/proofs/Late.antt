-- A delivery that comes late makes a race.
use Rattle.std.proofs.Common.{◌≡◌, ℕ, suc, ◌<◌, ◌≤◌, true, false, Some, is_some, inl, inr, refl, arith}
use Rattle.std.proofs.lemmas.Bool.{cases_lt}
use Rattle.wire_runs.specs.Plan.{Plan, GetNow, kind, event_count, node_of, same_node, Event}
use Rattle.wire_runs.specs.Puts.{stored}
use Rattle.wire_runs.specs.Order.{Live, Before}
use Rattle.wire_runs.specs.Races.{Delivery, IsOf, Brings, Delivers, ComesSurely, IsPutOnce, IsSettled}
use Rattle.wire_runs.proofs.Basics.{stored_own}
use Rattle.wire_runs.proofs.Due.{ClosedCut, chain_in}
use Rattle.wire_runs.proofs.Puts.{put_once}
use Rattle.wire_runs.proofs.Brought.{no_least}

-- A get-now of a settled plan to which surely none comes, and a delivery of whose events it is before none
module _ (plan : Plan) (settled : IsSettled plan) (get : Event) (owner key : ℕ) (is : kind plan get ≡ Some (GetNow owner key)) (live_get : Live plan get) (away : same_node plan owner get.proc ≡ false)
    (once : IsPutOnce plan owner key) (not_sure : ComesSurely plan owner key (node_of plan get.proc) get → ⊥) where
  module _ (d : Delivery) (delivers : Delivers plan owner key (node_of plan get.proc) d) (none : (z : Event) → IsOf plan d z → Before plan get z → ⊥) where
    -- an event of it that isn't before the get, of the process with this number
    abbrev Late : ℕ → Type 0
    Late r = (z : Event) × IsOf plan d z × (Before plan z get → ⊥) × (z.proc ≡ r)

    no_first : (r : ℕ) → Late r → ((i : ℕ) → i < r → Late i → ⊥) → ⊥
    no_first r late least = settled.no_delivery_race late.0 get owner key (record {
      is = is;
      other = away;
      once = once;
      get_live = live_get;
      not_sure = not_sure;
      delivery = d;
      delivers = delivers;
      before_none = none;
      of_it = late.1;
      not_before = late.2;
      first = λ z a not. elim (cases_lt z.proc late.0.proc) [
        | inl lt ↦ absurd (let same = late.3 in least z.proc (omega (arith, lt, same)) (z, a, not, refl))
        | inr ge ↦ ge
      ];
    })

    -- of none of its events it is denied that it comes before the get
    pub none_late : (z : Event) → IsOf plan d z → (Before plan z get → ⊥) → ⊥
    none_late z a not = no_least Late no_first (suc z.proc) z.proc (omega arith) (z, a, not, refl)

-- Two cuts, the second later and closed, and an event y that is in neither: all that is before y is in both. A delivery that has come in the
-- second cut, and surely none has come in the first, would make a race
module _ (plan : Plan) (settled : IsSettled plan) (later_cut : ℕ → ℕ) (y : Event) (closed : ClosedCut plan later_cut) (not_yet : later_cut y.proc ≤ y.at) (live_y : Live plan y) (t key : ℕ)
    (is : kind plan y ≡ Some (GetNow t key)) (away : same_node plan t y.proc ≡ false) (stored_once : is_some (stored plan t key (event_count plan t)) ≡ true)
    (not_sure : ComesSurely plan t key (node_of plan y.proc) y → ⊥) (d : Delivery) (brings_it : Brings plan t key (node_of plan y.proc) d)
    (its_done : (z : Event) → IsOf plan d z → z.at < later_cut z.proc) where
  pub no_late : (z : Event) → IsOf plan d z → (Before plan z y → ⊥) → ⊥
  no_late =
      none_late plan settled y t key is live_y away (put_once plan settled t key (event_count plan t) (stored_own plan t key (event_count plan t) stored_once)) not_sure d
      (record { brings_it = brings_it; all_live = λ z a. closed.all_live z (its_done z a) })
      (λ z a before. let e = chain_in closed before (its_done z a) in omega (arith, e, not_yet))
