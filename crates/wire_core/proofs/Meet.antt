-- When the end of a fence may happen.
use Rattle.std.proofs.Common.{◌≡◌, ◌∙◌, ap, sym, ℕ, suc, List, Bool, Some}
use Rattle.wire_runs.specs.Plan.{Plan, Leave, Event, kind}
use Rattle.wire_runs.specs.Fences.{arrivals, arrivals_with, is_complete}
use Rattle.wire_runs.specs.State.{State, next_event, next_kind}
use Rattle.wire_runs.specs.Step.{is_enabled, may_do}
use Rattle.wire_plan.specs.Meetings.{fence_members}

-- whether the fence that the event at x is part of is complete
abbrev pub complete_at : Plan → (ℕ → ℕ) → Event → Bool
complete_at plan cut x = is_complete plan cut (fence_members (kind plan x)) (arrivals plan x.proc (fence_members (kind plan x)) (suc x.at))

-- the end of a fence may happen where the fence is complete
pub leave_enabled : (plan : Plan) (s : State) (p : ℕ) (members : List ℕ) → next_kind plan s p ≡ Some (Leave members) → complete_at plan s.done (next_event s p) ≡ is_enabled plan s p
leave_enabled plan s p members is =
    ap (λ ms. is_complete plan s.done ms (arrivals plan p ms (suc (s.done p)))) (ap fence_members is)
    ∙ ap (λ o. is_complete plan s.done members (arrivals_with members (arrivals plan p members (s.done p)) o)) is
    ∙ ap (may_do plan s (next_event s p)) (sym is)
