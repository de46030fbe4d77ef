use Rattle.std.proofs.Common.{◌∙◌, ap, sym, subst, true≢false}
use Rattle.std.proofs.lemmas.Bool.{not_from_true, not_from_false, false_from_ne_true}
use Rattle.wire_runs.specs.Plan.{event_of}
use Rattle.wire_scripts.specs.Planned.{plan_of}
use Rattle.wire_fates.specs.declared.fate.Fate.TheVariants.{Waits}
use Rattle.wire_fates.specs.Fates.{IsFateOf, fate_told}
use Rattle.wire_board.proofs.SameFates.{fates_decide}
use Rattle.wire_board.proofs.lane.has_fate.Goals as goal

pub returns-then-eq : goal.returns-then-eq
returns-then-eq c =
    let same = (fates_decide c.fate.result c.args.fate).0 (sym c.eq.ensures ∙ c.if-eq.true) in
    let waits = fates_decide c.args.fate Waits in (
      (λ e. (
        subst (IsFateOf (plan_of c.args.settled.now) (event_of c.args.event)) same c.fate.ensures.fate,
        λ w. true≢false (sym e ∙ (c.ne.ensures ∙ not_from_true _ (waits.1 w))),
      )),
      (λ h. c.ne.ensures ∙ not_from_false _ (false_from_ne_true _ (λ e. h.1 (waits.0 e)))),
    )

pub returns-else-eq : goal.returns-else-eq
returns-else-eq c =
    let found = c.fate.ensures.fate in (
      (λ e. absurd (true≢false (sym e ∙ c.if-eq.false))),
      (λ h. c.eq.ensures ∙ (fates_decide c.fate.result c.args.fate).1
          (found.is ∙ (ap (fate_told (plan_of c.args.settled.now)) (c.has_fates.ensures.one _ found.fate h.0.fate found.has h.0.has) ∙ sym h.0.is))),
    )
