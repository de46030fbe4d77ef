use Rattle.std.proofs.Common.{◌≡◌, ◌∙◌, ap, sym}
use Rattle.wire_runs.specs.Plan.{kind, event_of}
use Rattle.wire_scripts.specs.Planned.{plan_of}
use Rattle.wire_report.specs.Chain.{half_of}
use Rattle.wire_report.proofs.chain_parts.step_of.Goals as goal

pub returns : goal.returns
returns c =
    let told : c.half_of.result ≡ half_of (kind (plan_of c.args.plan.now) (event_of c.args.event)) = c.half_of.ensures c.args.plan.now.sets ∙ ap half_of (sym c.kind.ensures) in
    λ i. record { call = c.call_of.ensures i; half = told i }
