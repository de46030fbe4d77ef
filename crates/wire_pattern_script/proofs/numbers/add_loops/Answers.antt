use Rattle.std.proofs.Common.{refl, List, ℕ}
use Rattle.std.specs.Borrow.{Bor}
use Rattle.wire_pattern.specs.Views.{step_by}
use Rattle.wire_pattern_script.specs.Numbers.{loop_of}
use Rattle.wire_pattern_script.specs.Drafted.{declared_of}
use Rattle.wire_pattern_script.specs.Drafted.{loop_of as draft_loop_of}
use Rattle.wire_pattern_script.proofs.Pushed.{one_pushed}
use Rattle.wire_pattern_script.proofs.numbers.add_loops.Goals as goal

pub loop-role-preserved : goal.loop-role-preserved
loop-role-preserved c =
    rw c.in_ok-push.ensures.items (one_pushed step_by (loop_of (declared_of c.args.draft.now) c.args.job (draft_loop_of c.args.begun.now)) (λ (w : Bor (List ℕ)). w.now)
    c.loop-role.numbered.items _ c.as_slice-roles.result.now c.loop-role.role-index c.in_ok-made.made _ _ c.loop-role-test.true refl c.loop-role.invariant c.in_ok-made.ensures)
