use Rattle.std.proofs.Common.{◌≡◌, ◌∙◌, ◌<◌, false, ap, sym, subst}
use Rattle.std.proofs.lemmas.Result.{on_ok_weaker}
use Rattle.wire_runs.specs.Plan.{Event, event_of, event_count}
use Rattle.wire_runs.proofs.Basics.{event_within, process_within}
use Rattle.wire_scripts.specs.Planned.{plan_of}
use Rattle.wire_library_laws.specs.Portable.{IsFor, IsPortableFar, Lacks}
use Rattle.wire_portable.specs.Libraries.{family_of, has}
use Rattle.wire_portable.specs.Judging.{NoRewrites, IsEndedFar}
use Rattle.wire_portable.specs.Searched.{plan_in, MayBe, IsFarFine}
use Rattle.wire_portable.proofs.GetsFine.{both_added, far_alone, far_fine, none_lacking, none_lacks}
use Rattle.wire_portable.proofs.search.Search.add_far_get.Goals as goal

pub is_far-requires-clause-proc : goal.is_far-requires-clause-proc
is_far-requires-clause-proc c = process_within (plan_in c.args.self.now) c.args.get.proc.number c.args.get.at _ c.requires.is

pub blame-requires : goal.blame-requires
blame-requires c =
    subst (λ s. c.args.get.at < event_count (plan_of s) c.args.get.proc.number) (sym (c.plan-plan.ensures ∙ ap (λ v. v.scripts) c.self.view_is))
    (event_within (plan_in c.args.self.now) c.args.get.proc.number c.args.get.at _ c.requires.is)

pub blame-requires-2 : goal.blame-requires-2
blame-requires-2 c =
    subst (λ s. c.args.get.at < event_count (plan_of s) c.args.get.proc.number) (sym (c.plan-plan.ensures ∙ ap (λ v. v.scripts) c.self.view_is))
    (event_within (plan_in c.args.self.now) c.args.get.proc.number c.args.get.at _ c.requires.is)

pub blame-requires-3 : goal.blame-requires-3
blame-requires-3 c =
    subst (λ s. c.args.get.at < event_count (plan_of s) c.args.get.proc.number) (sym (c.plan-plan.ensures ∙ ap (λ v. v.scripts) c.self.view_is))
    (event_within (plan_in c.args.self.now) c.args.get.proc.number c.args.get.at _ c.requires.is)

pub with_mates-requires-clause-is : goal.with_mates-requires-clause-is
with_mates-requires-clause-is c = c.requires.is

pub with_mates-requires-clause-asked : goal.with_mates-requires-clause-asked
with_mates-requires-clause-asked c = c.requires.asked

pub returns-in_default : goal.returns-in_default
returns-in_default c =
    let plan = plan_in c.args.self.now in
    let p = c.args.asked.owner.number in
    let key = c.args.asked.key in
    let g = event_of c.args.get in
    let anywhere = c.args.self.now.anywhere in
    let same = c.self.invariant.0 ∙ ap (λ v. v.scripts) c.self.view_is in
    let never = subst (λ s. (x : Event) → Lacks (plan_of s) p key x → ⊥) same c.in_default.ensures in
    λ library free.
    let first = c.in_ok-blame.ensures library free in (
      first.0,
      λ may. far_fine library plan p key g anywhere
          (far_alone library plan p key g (none_lacking library plan p key g never) (subst (λ s. NoRewrites (plan_of s) → IsFor (plan_of s) p key false) same (c.outside.ensures library first.1)))
          (none_lacks library plan p key g anywhere never),
    )

pub returns : goal.returns
returns c =
    let plan = plan_in c.args.self.now in
    let p = c.args.asked.owner.number in
    let key = c.args.asked.key in
    let g = event_of c.args.get in
    let anywhere = c.args.self.now.anywhere in
    let same = c.self.invariant.0 ∙ ap (λ v. v.scripts) c.self.view_is in
    on_ok_weaker c.blame-3.result
    (λ third. both_added c.args.found.now c.blame-2.new.self c.blame-3.new.self
    (λ library. NoRewrites plan → IsPortableFar (family_of library) plan p key g) (λ library. has c.with_mates.result library ≡ false)
    (λ library. MayBe anywhere plan false p g.proc → IsFarFine anywhere library plan p key g)
    (λ library alone n may. far_fine library plan p key g anywhere alone (c.with_mates.ensures library n))
    (both_added c.args.found.now c.blame.new.self c.blame-2.new.self (λ library. has c.outside.result library ≡ false) (λ library. has c.far_get.result library ≡ false)
    (λ library. NoRewrites plan → IsPortableFar (family_of library) plan p key g)
    (λ library o n. far_alone library plan p key g (subst (λ s. IsEndedFar (family_of library) (plan_of s) p key g) same (c.far_get.ensures library n))
    (subst (λ s. NoRewrites (plan_of s) → IsFor (plan_of s) p key false) same (c.outside.ensures library o)))
    c.in_ok-blame.ensures c.in_ok-blame-2.ensures)
    third)
    c.blame-3.ensures
