use Rattle.std.proofs.Common.{◌≡◌, Some, ap, sym, subst}
use Rattle.wire_runs.specs.Plan.{Get, kind, event_of}
use Rattle.wire_scripts.specs.Planned.{plan_of}
use Rattle.wire_library_laws.specs.Portable.{IsAsked}
use Rattle.wire_portable.specs.Phases.{IsThereUnlessEnded}
use Rattle.wire_portable.specs.Searched.{Searched}
use Rattle.wire_portable.proofs.search.Search.is_stored_earlier.Goals as goal

pub returns : goal.returns
returns c = λ t.
    let here = ap (λ (v : Searched). v.scripts) c.self.view_is in
    let told = rw c.plan-plan.ensures at c.is_stored_earlier.ensures in
    subst (λ s. IsThereUnlessEnded (plan_of s) c.args.asked.owner.number c.args.asked.key (event_of c.args.get)) here
    (told t c.self.invariant.6 (subst (λ s. kind (plan_of s) (event_of c.args.get) ≡ Some (Get c.args.asked.owner.number c.args.asked.key)) (sym here) c.requires.is)
    (subst (λ s. IsAsked (plan_of s) (event_of c.args.get)) (sym here) c.requires.asked))
