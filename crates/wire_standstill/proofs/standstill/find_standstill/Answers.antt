use Rattle.std.proofs.Common.{◌≡◌, ◌∙◌, ap, sym, subst, ℕ, List}
use Rattle.std.specs.Prelude.{Vec, MatchOption}
use Rattle.std.specs.declared.alloc.Global.{Global}
use Rattle.wire_circles.specs.Circles.{IsCircle, WaitsFor}
use Rattle.wire_core.specs.Course.{plan_in, state_of}
use Rattle.wire_standstill.specs.Standstill.{roots, IsDeadlockOrNone}
use Rattle.wire_standstill.proofs.Found.{found_there, roots_wait}
use Rattle.wire_standstill.proofs.standstill.find_standstill.Goals as goal

pub returns : goal.returns
returns c =
    let plan = plan_in c.args.core.now in
    let s = state_of c.args.core.now in
    let waits = c.in_ok-waits.waits.items in
    let circle = c.in_ok-circle.circle in
    let found = subst (λ (w : List (Vec ℕ Global)). MatchOption circle ((r : List ℕ) → IsCircle (WaitsFor w) r → ⊥) (λ r. IsCircle (WaitsFor w) r.items)) c.as_slice.ensures.value c.in_ok-circle.ensures in
    record {
      deadlock = subst (IsDeadlockOrNone plan s) (sym c.ranks_in-circle.ensures) (found_there plan s waits c.in_ok-waits.ensures.waits circle found);
      no_rank = roots_wait plan s waits c.in_ok-never.never.items c.in_ok-waits.ensures.waits (c.in_ok-never.ensures ∙ ap (roots plan s) c.as_slice-2.ensures.value);
    }
