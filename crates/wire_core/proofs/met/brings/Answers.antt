use Rattle.std.proofs.Common.{◌∙◌, sym, refl, ◌&&◌}
use Rattle.std.proofs.Math.Bool.{and-false, and-true}
use Rattle.wire_fence.specs.FenceTable.{fence_at, collects_in, reaches_in}
use Rattle.wire_core.proofs.Bring.{brings_told}
use Rattle.wire_core.proofs.met.brings.Goals as goal

pub returns-then-not-complete : goal.returns-then-not-complete
returns-then-not-complete c cut told =
    let met = c.fence_of-fence.ensures in
    let fence = fence_at c.args.fences.now c.fence_of-fence.result.number in
    let complete = c.complete.ensures.complete c.args.plan.now cut c.args.fences.now met.fence told met.there in
    let whole = brings_told c.args.plan.now c.args.fences.now cut c.args.event.proc.number c.args.event.at c.fence_of-fence.result.number c.args.node _ _ c.requires.fences c.in-Arrive.ensures met in
    (λ i. sym c.if-not-complete.true i && (collects_in fence && reaches_in c.args.fences.now c.args.node fence))
    ∙ whole c.complete.result (collects_in fence) (reaches_in c.args.fences.now c.args.node fence) complete refl refl

pub returns-then-not-reaches : goal.returns-then-not-reaches
returns-then-not-reaches c cut told =
    let met = c.fence_of-fence.ensures in
    let collects = collects_in (fence_at c.args.fences.now c.fence_of-fence.result.number) in
    let complete = c.complete.ensures.complete c.args.plan.now cut c.args.fences.now met.fence told met.there in
    let whole = brings_told c.args.plan.now c.args.fences.now cut c.args.event.proc.number c.args.event.at c.fence_of-fence.result.number c.args.node _ _ c.requires.fences c.in-Arrive.ensures met in
    sym (and-false collects)
    ∙ (λ i. sym c.if-not-complete.false i && (collects && sym c.if-not-reaches.true i))
    ∙ whole c.complete.result collects c.reaches.result complete refl c.reaches.ensures.told

pub returns-else-not-reaches : goal.returns-else-not-reaches
returns-else-not-reaches c cut told =
    let met = c.fence_of-fence.ensures in
    let complete = c.complete.ensures.complete c.args.plan.now cut c.args.fences.now met.fence told met.there in
    let whole = brings_told c.args.plan.now c.args.fences.now cut c.args.event.proc.number c.args.event.at c.fence_of-fence.result.number c.args.node _ _ c.requires.fences c.in-Arrive.ensures met in
    sym (and-true c.collects.result)
    ∙ (λ i. sym c.if-not-complete.false i && (c.collects.result && sym c.if-not-reaches.false i))
    ∙ whole c.complete.result c.collects.result c.reaches.result complete c.collects.ensures c.reaches.ensures.told
