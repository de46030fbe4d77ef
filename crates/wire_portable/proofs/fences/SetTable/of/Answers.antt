use Rattle.std.proofs.Common.{true, ap, ◌∙◌, get_or}
use Rattle.wire_scripts.specs.Scripts.{Scripts, set_at}
use Rattle.wire_portable.specs.Words.{is_one_job}
use Rattle.wire_portable.proofs.fences.SetTable.of.Goals as goal

pub returns : goal.returns
returns c = λ set.
    ap (λ v. get_or v.items set true) c.loop-number.invariant ∙ c.in_ok-table.ensures set
    ∙ ap (λ (s : Scripts). is_one_job s (set_at s.sets set)) (c.scripts.ensures.scripts ∙ c.plan-plan.ensures)
