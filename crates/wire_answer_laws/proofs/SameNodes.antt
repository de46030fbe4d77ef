-- A get-now finds the same in two placings in which the processes are on the same nodes.
use Rattle.std.proofs.Common.{◌≡◌, ◌∙◌, ap, sym, ℕ, ◌<◌, false, inl, inr, ◌==◌, eq-eqb, arith}
use Rattle.std.proofs.lemmas.Bool.{true≢false, cases_lt}
use Rattle.wire_types.specs.declared.Status.{Status}
use Rattle.wire_runs.specs.Plan.{Plan, Event, process_count, node_of, same_node}
use Rattle.wire_runs.specs.Races.{Delivery, ByFence, ByGet, IsOf}
use Rattle.wire_runs.specs.Placings.{IsPlacing, Carries, HasSurely}
use Rattle.wire_runs.specs.PlacingLaws.{AreAlike}
use Rattle.wire_runs.proofs.PlacingKeeps.{turned, placing_keeps, surely_kept}
use Rattle.wire_runs.proofs.Anywhere.{no_node, to_node, to_process}
use Rattle.wire_pattern_laws.specs.Finds.{far_nothing, far_value, Finds, from_own, from_near, from_far}
use Rattle.wire_pattern_answers.proofs.Same.{own_there, near_there}

-- on the same nodes, those of no process too
pub agree_all : (plan other : Plan) → process_count plan ≡ process_count other → ((q : ℕ) → q < process_count plan → node_of other q ≡ node_of plan q)
    → (q : ℕ) → node_of other q ≡ node_of plan q
agree_all plan other count agree q = elim (cases_lt q (process_count plan)) [
  | inl lt ↦ agree q lt
  | inr past ↦ no_node other q (omega (arith, past, count)) ∙ sym (no_node plan q past)
]

module _ (plan other : Plan) (same : IsPlacing plan other) (agree : (q : ℕ) → node_of other q ≡ node_of plan q) (get : Event) (owner key : ℕ) (found : Status) where
  kept : AreAlike plan other
  kept = placing_keeps plan other same

  beside : same_node other owner get.proc ≡ same_node plan owner get.proc
  beside = ap (λ n. n == node_of other get.proc) (agree owner) ∙ ap (λ n. node_of plan owner == n) (agree get.proc)

  of_back : (d : Delivery) (z : Event) → IsOf other d z → IsOf plan d z
  of_back (ByFence members j) z h = (kept.arrivals members j z).1 h
  of_back (ByGet g) z h = h

  off : (a : Plan) → same_node a owner get.proc ≡ false → node_of a owner ≡ node_of a get.proc → ⊥
  off a away e = true≢false (sym (eq-eqb _ _ e) ∙ away)

  pub finds_there : Finds plan get owner key found → Finds other get owner key found
  finds_there (from_own s f) = own_there plan other same get owner key found s f
  finds_there (from_near ne near f) = near_there plan other same get owner key found ne (beside ∙ near) f
  finds_there (from_far ne away (far_nothing none f)) = from_far ne (beside ∙ away) (far_nothing (λ sure.
      let m = to_process other owner key (node_of other get.proc) sure.delivery (off other (beside ∙ away)) sure.delivers in
      let h : HasSurely plan owner key m.0 get = surely_kept other plan (turned same) owner key m.0 get (record { delivery = sure.delivery; carries = m.1; all_before = sure.all_before }) in
      none (record {
        delivery = h.delivery;
        delivers = to_node plan owner key (node_of plan get.proc) m.0 h.delivery (sym (agree m.0) ∙ m.2 ∙ agree get.proc) h.carries;
        all_before = h.all_before;
      })) f)
  finds_there (from_far ne away (far_value d delivers none f)) =
      let m = to_process plan owner key (node_of plan get.proc) d (off plan away) delivers in
      let carries : Carries other owner key m.0 d = (kept.carries owner key m.0 d).0 m.1 in
      from_far ne (beside ∙ away)
      (far_value d (to_node other owner key (node_of other get.proc) m.0 d (agree m.0 ∙ m.2 ∙ sym (agree get.proc)) carries)
      (λ z a b. none z (of_back d z a) ((kept.chains get z).1 b)) f)
