-- Runs with more steps at their end.
use Rattle.std.proofs.Common.{◌≡◌, ℕ, List, [], ◌∷◌, ◌++◌, true, refl}
use Rattle.wire_runs.specs.Plan.{Plan}
use Rattle.wire_runs.specs.State.{State}
use Rattle.wire_runs.specs.Step.{is_enabled, step, IsInterleaving, run_from}

-- steps after steps
pub run_append : (plan : Plan) (s : State) (v w : List ℕ) → run_from plan s (v ++ w) ≡ run_from plan (run_from plan s v) w
run_append plan s [] w = refl
run_append plan s (p ∷ v) w = run_append plan (step plan s p) v w

pub legal_append : (plan : Plan) (s : State) (v w : List ℕ) → IsInterleaving plan s v → IsInterleaving plan (run_from plan s v) w → IsInterleaving plan s (v ++ w)
legal_append plan s [] w h on = on
legal_append plan s (p ∷ v) w h on = (h.0, legal_append plan (step plan s p) v w h.1 on)

-- one step more
pub run_push : (plan : Plan) (s : State) (w : List ℕ) (p : ℕ) → run_from plan s (w ++ p ∷ []) ≡ step plan (run_from plan s w) p
run_push plan s [] p = refl
run_push plan s (q ∷ w) p = run_push plan (step plan s q) w p

pub legal_push : (plan : Plan) (s : State) (w : List ℕ) (p : ℕ) → IsInterleaving plan s w → is_enabled plan (run_from plan s w) p ≡ true → IsInterleaving plan s (w ++ p ∷ [])
legal_push plan s [] p legal on = (on, tt)
legal_push plan s (q ∷ w) p legal on = (legal.0, legal_push plan (step plan s q) w p legal.1 on)
