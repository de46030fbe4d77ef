use Rattle.std.proofs.Common.{ap, sym, refl, map, flat_map}
use Rattle.std.proofs.lemmas.List.{drop_all}
use Rattle.wire_report.specs.Unsettled.{step_line}
use Rattle.wire_report.proofs.Appended.{then_more, next_mapped, none_left}
use Rattle.wire_report.proofs.unsettled.push_steps.Goals as goal

pub loop-proc-preserved : goal.loop-proc-preserved
loop-proc-preserved c =
    next_mapped (step_line c.args.scripts.now) (λ p. p.number) c.args.order.now c.loop-proc.proc-index _ _ _ _ c.loop-proc-test.true c.loop-proc.invariant
    (then_more _ _ _ _ _ c.in_ok-push_proc.ensures.ok c.in_ok-extend_from_slice.ensures.items)

pub loop-proc-init : goal.loop-proc-init
loop-proc-init c = refl

pub returns : goal.returns
returns c =
    none_left _ _ _ (ap (λ ps. flat_map (step_line c.args.scripts.now) (map (λ p. p.number) ps)) (drop_all c.loop-proc.proc-index c.args.order.now c.loop-proc-test.false)) (sym c.loop-proc.invariant)
