use Rattle.std.proofs.Common.{◌≡◌, ◌∙◌, true, ap, subst}
use Rattle.wire_runs.specs.Fences.{is_member}
use Rattle.wire_runs.specs.Plan.{set_of}
use Rattle.wire_scripts.specs.Scripts.{Scripts, numbers_of, set_at}
use Rattle.wire_portable.proofs.PhaseRows.{in_set}
use Rattle.wire_portable.proofs.main_sets.is_of_set.Goals as goal

pub returns : goal.returns
returns c = λ t.
    let sets = c.sets-sets.ensures ∙ ap (λ (s : Scripts). s.sets) c.scripts-scripts.ensures.scripts in
    subst (λ xs. is_member (set_of xs) c.args.proc.number ≡ true) (c.members-members.ensures ∙ ap (λ all. set_at all c.args.set) sets)
    (in_set (numbers_of c.members-members.result.now) c.partition_point-place.result c.args.proc.number (c.is_at.ensures t))
