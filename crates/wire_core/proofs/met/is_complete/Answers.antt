use Rattle.std.proofs.Common.{◌∙◌, ap, sym, suc}
use Rattle.wire_runs.specs.Fences.{is_complete, arrivals}
use Rattle.wire_scripts.specs.Planned.{plan_of}
use Rattle.wire_core.proofs.met.is_complete.Goals as goal

pub returns : goal.returns
returns c cut told =
    let plan = plan_of c.args.plan.now in
    let met = c.fence_of.ensures in
    c.complete.ensures.complete c.args.plan.now cut c.args.fences.now met.fence told met.there
    ∙ ap (λ j. is_complete plan cut met.fence.members j) (sym met.nth)
    ∙ ap (λ ms. is_complete plan cut ms (arrivals plan c.args.event.proc.number ms (suc c.args.event.at))) met.members
