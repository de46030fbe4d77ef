use Rattle.std.proofs.Common.{◌<◌, ◌∙◌, ap, sym, subst}
use Rattle.wire_runs.specs.Plan.{event_of, event_count}
use Rattle.wire_runs.proofs.Basics.{process_within, event_within}
use Rattle.wire_scripts.specs.Planned.{plan_of}
use Rattle.wire_portable.specs.Searched.{Searched}
use Rattle.wire_portable.proofs.NowsAdded.{not_far, may_far, blamed_far}
use Rattle.wire_portable.proofs.search.Search.add_far_now.Goals as goal

pub is_far-requires-clause-proc : goal.is_far-requires-clause-proc
is_far-requires-clause-proc c = process_within (plan_of c.args.self.now.scripts) c.args.get.proc.number c.args.get.at _ c.requires.now.is

pub unsure_now-libraries-requires-clause-far : goal.unsure_now-libraries-requires-clause-far
unsure_now-libraries-requires-clause-far c =
    may_far c.args.self.now.anywhere (plan_of c.args.self.now.scripts) c.args.asked.owner.number c.args.get.proc.number (sym c.is_far.ensures ∙ c.if-not-is_far.false)

pub blame-requires : goal.blame-requires
blame-requires c =
    let here = c.plan.ensures ∙ ap (λ (v : Searched). v.scripts) c.self.view_is in
    subst (λ s. c.args.get.at < event_count (plan_of s) c.args.get.proc.number) (sym here) (event_within (plan_of c.args.self.now.scripts) c.args.get.proc.number c.args.get.at _ c.requires.now.is)

pub returns-then-not-is_far : goal.returns-then-not-is_far
returns-then-not-is_far c =
    not_far c.args.self.now c.args.asked.owner.number c.args.asked.key (event_of c.args.get) c.args.found.now (sym c.is_far.ensures ∙ c.if-not-is_far.true)

pub returns : goal.returns
returns c =
    blamed_far c.args.self.now c.args.asked.owner.number c.args.asked.key (event_of c.args.get) c.args.found.now c.blame.new.self c.unsure_now-libraries.result c.unsure_now-libraries.ensures
    c.in_ok-blame.ensures
