-- Runs of a settled plan that can't go on have one end.
use Rattle.std.proofs.Common.{◌≡◌, ℕ, List, [], ◌∷◌, true, refl, sym}
use Rattle.wire_runs.specs.Plan.{Plan}
use Rattle.wire_runs.specs.State.{State, start}
use Rattle.wire_runs.specs.Step.{is_enabled, step, IsInterleaving, run_from}
use Rattle.wire_runs.specs.Races.{IsSettled}
use Rattle.wire_runs.specs.Laws.{EnabledCommute, OneEnd}
use Rattle.wire_runs.proofs.Confluence.{Leads, Undisturbed, one_end}
use Rattle.wire_runs.proofs.Known.{Known, known_start, known_step, reachable_known}
use Rattle.wire_runs.proofs.Diamond.{commute}

leads : (plan : Plan) (w : List ℕ) (s : State) → IsInterleaving plan s w → Leads (is_enabled plan) (step plan) s w (run_from plan s w)
leads plan [] s h = refl
leads plan (p ∷ w) s h = (h.0, leads plan w (step plan s p) h.1)

diamond : (plan : Plan) → IsSettled plan → (s : State) (p q : ℕ) → Known plan s → (p ≡ q → ⊥) → is_enabled plan s p ≡ true → is_enabled plan s q ≡ true →
    Undisturbed (is_enabled plan) (step plan) s p q
diamond plan settled s p q k ne hp hq =
    let c = commute plan settled s p q k ne hp hq in
    record { stays = c.first_stays; same = sym c.same_end }

pub enabled_commute : EnabledCommute
enabled_commute plan s p q settled r ne hp hq = commute plan settled s p q (reachable_known plan settled s r) ne hp hq

pub settled_one_end : OneEnd
settled_one_end plan v w settled hv hw ev ew =
    one_end State (is_enabled plan) (step plan) (Known plan) (known_step plan settled) (diamond plan settled) v w start (run_from plan start v) (run_from plan start w) (known_start plan)
    (leads plan v start hv) (leads plan w start hw) ev ew
