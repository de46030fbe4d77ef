use Rattle.std.proofs.Common.{◌≡◌, ◌∙◌, ◌++◌, Some, map, sym, ap, subst}
use Rattle.std.specs.Prelude.{option_map}
use Rattle.std.specs.Option.{option_to_list}
use Rattle.wire_runs.specs.Plan.{event_of, kind}
use Rattle.wire_runs.specs.State.{next_event}
use Rattle.wire_scripts.specs.Planned.{plan_of}
use Rattle.wire_plan.specs.Kinds.{kind_of}
use Rattle.wire_plan.specs.Index.{AreSources, previous_of}
use Rattle.wire_core.specs.Course.{state_of}
use Rattle.wire_standstill.specs.Standstill.{undone_ranks, AreWaitedBy}
use Rattle.wire_standstill.proofs.Awaited.{ranks_are}
use Rattle.wire_standstill.proofs.whom.ranks_before.Goals as goal

pub returns : goal.returns
returns c =
    let read = c.plan-plan.result.now in
    let s = state_of c.args.core.now in
    let p = c.args.event.proc.number in
    let single = option_to_list (option_map event_of c.sources-sources.result.awaited) in
    let arrivals = map event_of c.sources-sources.result.arrivals.now in
    let publishes = map event_of c.publishes_for.result.now in
    let sources = c.sources-sources.ensures.sources in
    let begun : c.push_one_undone.new.out.items ≡ undone_ranks s single = c.in_ok-push_one_undone.ensures ∙ ap (λ xs. xs ++ undone_ranks s single) c.new-ranks.ensures.items in
    let two = c.in_ok-push_all_undone.ensures ∙ ap (λ xs. xs ++ undone_ranks s arrivals) begun in
    let three = c.in_ok-push_all_undone-2.ensures ∙ ap (λ xs. xs ++ undone_ranks s publishes) two in
    subst (λ t. AreWaitedBy (plan_of t) s p c.push_all_undone-2.new.out.items) c.plan-plan.ensures
    (ranks_are (plan_of read) s p (kind_of read.sets c.kind.result) single arrivals publishes
    (ap (kind (plan_of read)) (sym c.requires.next) ∙ c.kind.ensures)
    (subst (λ y. AreSources (plan_of read) y (option_to_list (previous_of y) ++ (single ++ arrivals))) c.requires.next
    (subst (λ o. AreSources (plan_of read) (event_of c.args.event) (option_to_list o ++ (single ++ arrivals))) c.sources-sources.ensures.previous sources))
    c.publishes_for.ensures c.push_all_undone-2.new.out.items three)
