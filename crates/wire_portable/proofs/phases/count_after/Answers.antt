use Rattle.std.proofs.Common.{◌∙◌, Some, ap, sym}
use Rattle.wire_runs.specs.Fences.{arrivals_with}
use Rattle.wire_runs.specs.Plan.{set_of}
use Rattle.wire_scripts.specs.Scripts.{set_at}
use Rattle.wire_plan.specs.Kinds.{kind_of}
use Rattle.wire_portable.proofs.PhaseRows.{apart_counts}
use Rattle.wire_portable.proofs.phases.count_after.Goals as goal

pub returns-else-other-set-clause-counted : goal.returns-else-other-set-clause-counted
returns-else-other-set-clause-counted c =
    let s = c.args.plan.now in
    apart_counts s c.args.set c.in-Arrive.other c.args.event.proc.number c.scripts.ensures.sound c.requires.member c.args.count c.in-Arrive.collect c.if-other-set.false
    ∙ ap (arrivals_with (set_of (set_at s.sets c.args.set)) c.args.count) (sym (c.kind.ensures ∙ ap (λ k. Some (kind_of s.sets k)) c.in-Arrive.is))
