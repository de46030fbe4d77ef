-- Numbers of keys and names say nothing of what a get-now finds.
use Rattle.std.proofs.Common.{◌≡◌, ◌==◌, ℕ, Some, sym, ap, ◌∙◌, subst}
use Rattle.std.proofs.lemmas.Option.{same_Some}
use Rattle.wire_types.specs.declared.Status.{Status}
use Rattle.wire_runs.specs.Plan.{Plan, Event, Kind, GetNow, kind, node_of, same_node}
use Rattle.wire_runs.specs.Order.{Live}
use Rattle.wire_runs.specs.Renamed.{renumbering, IsRenumbered}
use Rattle.wire_runs.proofs.EmbeddedOrder.{live_back}
use Rattle.wire_pattern_laws.specs.Finds.{Finds, from_own, from_near, from_far, far_nothing, far_value}
use Rattle.wire_pattern_laws.specs.StatusesTold.{RenumberedFinds}
use Rattle.wire_pattern_laws.proofs.NumbersBack.{renumbering_turns}
use Rattle.wire_runs.proofs.Renumbered.{embeds, kept_delivery}
use Rattle.wire_pattern_laws.proofs.FindsBack.{own_back, near_back, far_nothing_back, far_value_back}

live_over : (plan other : Plan) (key name : ℕ → ℕ) → IsRenumbered plan other key name → (y : Event) → Live other y → Live plan y
live_over plan other key name same y l = live_back (renumbering key name) plan other (embeds plan other key name same) y l

-- a get-now of the one is one of the other
kind_over : (plan other : Plan) (key name : ℕ → ℕ) → IsRenumbered plan other key name → (get : Event) (owner k : ℕ) → kind plan get ≡ Some (GetNow owner k) → kind other get ≡ Some (GetNow owner (key k))
kind_over plan other key name same get owner k is = (embeds plan other key name same).kinds_agree get (GetNow owner k) is

key_in : Kind → ℕ
key_in (GetNow owner key) = key
key_in _ = 0

-- what it finds in the plan under other numbers, it finds in the plan
module _ (plan other : Plan) (key name : ℕ → ℕ) (same : IsRenumbered plan other key name) (get : Event) (owner k : ℕ) (is : kind plan get ≡ Some (GetNow owner k)) (live_get : Live other get) (found : Status) where
  same_nodes : same_node plan owner get.proc ≡ same_node other owner get.proc
  same_nodes = sym (ap (λ n. n == node_of plan get.proc) (same.nodes owner)) ∙ sym (ap (λ n. node_of other owner == n) (same.nodes get.proc))

  finds_over : Finds other get owner (key k) found → Finds plan get owner k found
  finds_over (from_own s f) = from_own s (own_back (renumbering key name) plan other (embeds plan other key name same) get owner k is live_get found s f)
  finds_over (from_near ne near f) = from_near ne (same_nodes ∙ near) (near_back (renumbering key name) plan other (embeds plan other key name same) get owner k is live_get found f)
  finds_over (from_far ne away (far_nothing none f)) = from_far ne (same_nodes ∙ away) (far_nothing_back (renumbering key name) plan other (embeds plan other key name same) get owner k is live_get found none f)
  finds_over (from_far ne away (far_value d delivers none f)) =
      from_far ne (same_nodes ∙ away)
      (far_value_back (renumbering key name) plan other (embeds plan other key name same) get owner k is live_get found d delivers none f
      (kept_delivery plan other key name same owner get (key k) d delivers))

-- the number of the key leads back
key_back : (plan other : Plan) (key name key' name' : ℕ → ℕ) → IsRenumbered plan other key name → IsRenumbered other plan key' name' → (get : Event) (owner k : ℕ) → kind plan get ≡ Some (GetNow owner k) → key' (key k) ≡ k
unfolding key_in
key_back plan other key name key' name' same turned get owner k is =
    ap key_in (same_Some _ _ (sym (kind_over other plan key' name' turned get owner (key k) (kind_over plan other key name same get owner k is)) ∙ is))

pub renumbered_finds : RenumberedFinds
renumbered_finds plan other key name same get owner k is =
    let turned = renumbering_turns plan other key name same in
    let back = key_back plan other key name turned.0 turned.1 same turned.2 get owner k is in
    let kind_there = kind_over plan other key name same get owner k is in
    let into = live_over other plan turned.0 turned.1 turned.2 get in
    record {
      live = (into, live_over plan other key name same get);
      finds = λ l found. (
        (λ finds. finds_over other plan turned.0 turned.1 turned.2 get owner (key k) kind_there l found (subst (λ v. Finds plan get owner v found) (sym back) finds)),
        (λ finds. finds_over plan other key name same get owner k is (into l) found finds),
      );
    }
