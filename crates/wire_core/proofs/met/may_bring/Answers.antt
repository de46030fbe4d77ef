use Rattle.std.proofs.Common.{◌∙◌, ap, sym, ◌&&◌}
use Rattle.wire_fence.specs.FenceTable.{fence_at, reaches_in}
use Rattle.wire_core.proofs.Bring.{may_not}
use Rattle.wire_core.proofs.met.may_bring.Goals as goal

pub returns-then-not-collects : goal.returns-then-not-collects
returns-then-not-collects c _ cut =
    let fence = fence_at c.args.fences.now c.fence_of-fence.result.number in
    may_not c.args.plan.now c.args.fences.now c.args.event.proc.number c.args.event.at c.fence_of-fence.result.number c.args.node _ _ c.requires.fences c.in-Arrive.ensures c.fence_of-fence.ensures
    (ap (λ b. b && reaches_in c.args.fences.now c.args.node fence) (sym c.collects.ensures ∙ c.if-not-collects.true)) cut
