-- To a get-now of a settled plan to which surely nothing comes, each delivery has an event that it is before.
use Rattle.std.proofs.Common.{◌≡◌, ℕ, false, Some, refl, sym, subst}
use Rattle.wire_runs.specs.Plan.{Plan, GetNow, kind, node_of, same_node, Event}
use Rattle.wire_runs.specs.Order.{Live, Before}
use Rattle.wire_runs.specs.Races.{Delivery, ByFence, ByGet, IsOf, Delivers, ComesSurely, IsPutOnce, IsSettled}
use Rattle.wire_runs.proofs.Late.{none_late}
use Rattle.wire_runs.proofs.Arrivals.{all_undenied}

module _ (plan : Plan) (settled : IsSettled plan) (get : Event) (owner key : ℕ) (is : kind plan get ≡ Some (GetNow owner key)) (live_get : Live plan get) (away : same_node plan owner get.proc ≡ false)
    (once : IsPutOnce plan owner key) (not_sure : ComesSurely plan owner key (node_of plan get.proc) get → ⊥) where
  -- if all of it came before the get, it would come surely: so there is no such delivery
  pub none_delivers : (d : Delivery) → Delivers plan owner key (node_of plan get.proc) d → ((z : Event) → IsOf plan d z → Before plan get z → ⊥) → ⊥
  none_delivers (ByGet g) delivers none =
      none_late plan settled get owner key is live_get away once not_sure (ByGet g) delivers none g refl
      (λ b. not_sure (record { delivery = ByGet g; delivers = delivers; all_before = λ z s. subst (λ v. Before plan v get) (sym s) b }))
  none_delivers (ByFence members j) delivers none =
      all_undenied plan members j (λ z. Before plan z get) (none_late plan settled get owner key is live_get away once not_sure (ByFence members j) delivers none) members
      (λ all. not_sure (record { delivery = ByFence members j; delivers = delivers; all_before = λ z a. all z a a.member }))
