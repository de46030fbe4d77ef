use Rattle.std.proofs.Common.{◌≡◌, ◌∙◌, ◌<◌, true, false, ap, sym, subst}
use Rattle.std.proofs.lemmas.Result.{on_ok_weaker}
use Rattle.wire_runs.specs.Plan.{event_of, event_count}
use Rattle.wire_runs.proofs.Basics.{event_within, process_within}
use Rattle.wire_scripts.specs.Planned.{plan_of}
use Rattle.wire_library_laws.specs.Portable.{IsFor}
use Rattle.wire_portable.specs.Libraries.{family_of, has}
use Rattle.wire_portable.specs.Judging.{NoRewrites, IsEndedNear}
use Rattle.wire_portable.specs.Searched.{plan_in, MayBe, IsNearFine}
use Rattle.wire_portable.proofs.GetsFine.{both_added, near_fine}
use Rattle.wire_portable.proofs.search.Search.add_near_get.Goals as goal

pub is_near-requires-clause-proc : goal.is_near-requires-clause-proc
is_near-requires-clause-proc c = process_within (plan_in c.args.self.now) c.args.get.proc.number c.args.get.at _ c.requires.is

pub blame-requires : goal.blame-requires
blame-requires c =
    subst (λ s. c.args.get.at < event_count (plan_of s) c.args.get.proc.number) (sym (c.plan-plan.ensures ∙ ap (λ v. v.scripts) c.self.view_is))
    (event_within (plan_in c.args.self.now) c.args.get.proc.number c.args.get.at _ c.requires.is)

pub blame-requires-2 : goal.blame-requires-2
blame-requires-2 c =
    subst (λ s. c.args.get.at < event_count (plan_of s) c.args.get.proc.number) (sym (c.plan-plan.ensures ∙ ap (λ v. v.scripts) c.self.view_is))
    (event_within (plan_in c.args.self.now) c.args.get.proc.number c.args.get.at _ c.requires.is)

pub returns : goal.returns
returns c =
    let plan = plan_in c.args.self.now in
    let p = c.args.asked.owner.number in
    let key = c.args.asked.key in
    let g = event_of c.args.get in
    let same = c.self.invariant.0 ∙ ap (λ v. v.scripts) c.self.view_is in
    on_ok_weaker c.blame-2.result
    (λ second. both_added c.args.found.now c.blame.new.self c.blame-2.new.self (λ library. has c.near_get.result library ≡ false) (λ library. has c.outside.result library ≡ false)
    (λ library. MayBe c.args.self.now.anywhere plan true p g.proc → IsNearFine library plan p key g)
    (λ library n o may. near_fine library plan p key g (subst (λ s. IsEndedNear (family_of library) (plan_of s) p key g) same (c.near_get.ensures library n))
    (subst (λ s. NoRewrites (plan_of s) → IsFor (plan_of s) p key true) same (c.outside.ensures library o)))
    c.in_ok-blame.ensures second)
    c.blame-2.ensures
