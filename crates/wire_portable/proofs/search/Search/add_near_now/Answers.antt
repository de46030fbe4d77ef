use Rattle.std.proofs.Common.{◌<◌, ◌∙◌, ap, sym, subst}
use Rattle.wire_runs.specs.Plan.{event_of, event_count}
use Rattle.wire_runs.proofs.Basics.{process_within, event_within}
use Rattle.wire_scripts.specs.Planned.{plan_of}
use Rattle.wire_portable.specs.Nows.{IsNearNowFine}
use Rattle.wire_portable.specs.Searched.{Searched}
use Rattle.wire_portable.proofs.NowsAdded.{not_near, fine_near, blamed_near}
use Rattle.wire_portable.proofs.search.Search.add_near_now.Goals as goal

pub is_near-requires-clause-proc : goal.is_near-requires-clause-proc
is_near-requires-clause-proc c = process_within (plan_of c.args.self.now.scripts) c.args.get.proc.number c.args.get.at _ c.requires.now.is

pub blame-requires : goal.blame-requires
blame-requires c =
    let here = c.plan.ensures ∙ ap (λ (v : Searched). v.scripts) c.self.view_is in
    subst (λ s. c.args.get.at < event_count (plan_of s) c.args.get.proc.number) (sym here) (event_within (plan_of c.args.self.now.scripts) c.args.get.proc.number c.args.get.at _ c.requires.now.is)

pub returns-then-not-is_near : goal.returns-then-not-is_near
returns-then-not-is_near c =
    not_near c.args.self.now c.args.asked.owner.number c.args.asked.key (event_of c.args.get) c.args.found.now (sym c.is_near.ensures ∙ c.if-not-is_near.true)

pub returns-then-not-sees_remote : goal.returns-then-not-sees_remote
returns-then-not-sees_remote c =
    let p = c.args.asked.owner.number in
    let key = c.args.asked.key in
    let g = event_of c.args.get in
    let here = c.self.invariant.0 ∙ ap (λ (v : Searched). v.scripts) c.self.view_is in
    fine_near c.args.self.now p key g c.args.found.now (subst (λ s. IsNearNowFine (plan_of s) p key g) here (c.sees_remote.ensures c.if-not-sees_remote.true))

pub returns : goal.returns
returns c =
    blamed_near c.args.self.now c.args.asked.owner.number c.args.asked.key (event_of c.args.get) c.args.found.now c.blame.new.self c.all-all.result c.all-all.ensures c.in_ok-blame.ensures
