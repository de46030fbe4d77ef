use Rattle.std.proofs.Common.{map, subst}
use Rattle.wire_scripts.specs.Planned.{plan_of}
use Rattle.wire_portable.specs.Phases.{AreMainRows, AreReadWithin}
use Rattle.wire_portable.proofs.PhaseRows.{phases_counted}
use Rattle.wire_portable.proofs.phases.Phases.by.Goals as goal

pub returns : goal.returns
returns c =
    phases_counted c.args.plan.now c.args.sets.items (map (λ row. row.items) c.in_ok-rows.rows.items) c.requires
    (subst (AreReadWithin (plan_of c.args.plan.now)) c.as_slice.ensures.value (c.are_within.ensures c.if-not-are_within.false))
    (subst (λ sets. AreMainRows c.args.plan.now sets (map (λ row. row.items) c.in_ok-rows.rows.items)) c.as_slice-2.ensures.value c.in_ok-rows.ensures)
