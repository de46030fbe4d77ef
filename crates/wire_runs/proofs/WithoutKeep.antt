-- Where a plan doesn't keep what gets bring.
use Rattle.std.proofs.Common.{◌≡◌, ℕ, true, false, None, cond, nat_eq, sym, ap, ◌∙◌}
use Rattle.std.proofs.lemmas.Bool.{cond-false, true≢false}
use Rattle.wire_runs.specs.Plan.{Plan, process_count, event_count, node_of, same_node}
use Rattle.wire_runs.specs.State.{State}
use Rattle.wire_runs.specs.Puts.{own, stored}
use Rattle.wire_runs.specs.Sight.{held, served, for_others, delivered, greater, greatest, got_on, brought}
use Rattle.wire_runs.specs.Laws.{WithoutKeep}

-- what has come to a node was brought by fences
pub fences_bring : (plan : Plan) → plan.keep ≡ false → (s : State) (p key node : ℕ) → brought plan s p key node ≡ for_others plan p (delivered plan s.done p node key (event_count plan p))
fences_bring plan no_keep s p key node =
    ap (greater (for_others plan p (delivered plan s.done p node key (event_count plan p)))) (cond-false plan.keep (greatest (got_on plan s p key node) (process_count plan)) None no_keep)

pub without_keep : WithoutKeep
without_keep plan no_keep = record {
  sees = λ s q i p key. ap (λ v. cond (nat_eq q p) (held (own plan p key i)) (cond (same_node plan p q) (served plan p true (stored plan p key (s.done p))) (held v)))
      (fences_bring plan no_keep s p key (node_of plan q));
  deliveries = λ p key node get d. true≢false (sym d.brings_it.away.keeps ∙ no_keep);
}
