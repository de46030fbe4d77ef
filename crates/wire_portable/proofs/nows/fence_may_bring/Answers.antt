use Rattle.std.proofs.Common.{◌∙◌, ap, sym}
use Rattle.std.proofs.lemmas.Bool.{true≢false}
use Rattle.wire_runs.specs.Plan.{event_of}
use Rattle.wire_scripts.specs.Planned.{plan_of}
use Rattle.wire_portable.proofs.Sets.{not_false}
use Rattle.wire_portable.proofs.Carried.{no_fences, dead_end, later_end, within_own}
use Rattle.wire_portable.proofs.nows.fence_may_bring.Goals as goal

pub next_arrival-requires : goal.next_arrival-requires
next_arrival-requires c = rw c.plan-plan.ensures c.requires.once

pub end_of-end-requires : goal.end_of-end-requires
end_of-end-requires c =
    let next = rw c.plan-plan.ensures at c.in-Some.ensures in
    rw c.plan-plan.ensures (within_own (plan_of c.args.judge.now) c.args.asked.owner.number c.in-Some.first.proc.number c.in-Some.first.at next.proc next.there)

pub returns-in_default : goal.returns-in_default
returns-in_default c = λ e.
    no_fences (plan_of c.args.judge.now) c.args.asked.owner.number c.args.asked.key (event_of c.args.get) c.requires.is c.args.node (rw c.plan-plan.ensures at c.in_default.ensures)

pub returns-then-not-live : goal.returns-then-not-live
returns-then-not-live c = λ e.
    let next = rw c.plan-plan.ensures at c.in-Some.ensures in
    dead_end (plan_of c.args.judge.now) c.args.asked.owner.number c.args.asked.key (event_of c.args.get) c.requires.is c.args.node c.in-Some.first.at next.delivers next.others
    c.end_of-end.result (ap (λ q. q.number) c.end_of-end.ensures.proc ∙ next.proc) c.end_of-end.ensures.next
    (λ l. true≢false (sym ((rw c.marked-marked.ensures at c.live.ensures).1 l) ∙ c.if-not-live.true))

pub returns : goal.returns
returns c = λ e.
    let next = rw c.plan-plan.ensures at c.in-Some.ensures in
    later_end (plan_of c.args.judge.now) c.args.asked.owner.number c.args.asked.key (event_of c.args.get) c.requires.is c.args.node c.in-Some.first.at next.delivers next.others
    c.end_of-end.result (ap (λ q. q.number) c.end_of-end.ensures.proc ∙ next.proc) c.end_of-end.ensures.next
    ((rw c.marked-marked.ensures at c.before-chained.ensures).0 (not_false c.before-chained.result e))
