use Rattle.std.proofs.Common.{◌∙◌, ap, sym, subst, ◌+◌, ◌++◌, map, take, arith}
use Rattle.std.proofs.lemmas.List.{map-append}
use Rattle.wire_types.specs.declared.CallEnd.TheVariants.{Replied}
use Rattle.wire_scripts.specs.Planned.{plan_of}
use Rattle.wire_runs.specs.Races.{IsSettled}
use Rattle.wire_runs.specs.Ends.{replies_of}
use Rattle.wire_runs.specs.Laws.{plain_end}
use Rattle.wire_parallel_run.specs.Trails.{said_by}
use Rattle.wire_parallel_run.proofs.ByFates.{IsCount, says_more, count_happens, count_waits, waits_if, all_said, all_counted}
use Rattle.wire_parallel_run.proofs.by_fates.replied_by_fates.Goals.{then-happens, else-happens}
use Rattle.wire_parallel_run.proofs.by_fates.replied_by_fates.Goals as goal

pub loop-at-preserved : goal.loop-at-preserved
loop-at-preserved c =
    let plan = plan_of c.args.settled.now in
    let p = c.args.proc.number in
    let at = c.loop-at.at in
    let found = c.fate-fate.result in
    let is = c.fate-fate.ensures.fate in
    let settled = subst (λ scripts. IsSettled (plan_of scripts)) c.plan-plan.ensures.same c.plan-plan.ensures.settled in
    let live_done = c.live_are_done.ensures c.requires in
    record {
      ends = c.in_ok-add_said.ensures ∙ ap (λ ends. ends ++ map Replied (said_by found)) c.loop-at.invariant.ends
          ∙ sym (map-append Replied (replies_of plan (take at ((plain_end plan).replies p))) (said_by found))
          ∙ ap (map Replied) (sym (says_more plan settled live_done p at found is));
      count = elim c.if-happens.branch [
        | then-happens w ↦ subst (λ n. IsCount plan p (at + 1) n) (sym w.done-is) (count_happens plan settled live_done p at found is (c.happens.ensures.0 w.if-happens.true))
        | else-happens w ↦ subst (λ n. IsCount plan p (at + 1) n) (sym w.done-is)
            (count_waits plan settled live_done p at _ found is (waits_if found _ c.happens.ensures w.if-happens.false) c.loop-at.invariant.count)
      ];
    }

pub returns-clause-ends : goal.returns-clause-ends
returns-clause-ends c =
    let plan = plan_of c.args.settled.now in
    let p = c.args.proc.number in
    let settled = subst (λ scripts. IsSettled (plan_of scripts)) c.plan-plan.ensures.same c.plan-plan.ensures.settled in
    let live_done = c.live_are_done.ensures c.requires in
    let past = c.loop-at-test.false in
    let count = rw c.plan-plan.ensures.same at c.event_count-at-end.ensures in
    c.loop-at.invariant.ends ∙ ap (map Replied) (all_said plan settled live_done p c.loop-at.at (omega (arith, past, count)))

pub returns-clause-done : goal.returns-clause-done
returns-clause-done c =
    let plan = plan_of c.args.settled.now in
    let p = c.args.proc.number in
    let settled = subst (λ scripts. IsSettled (plan_of scripts)) c.plan-plan.ensures.same c.plan-plan.ensures.settled in
    let live_done = c.live_are_done.ensures c.requires in
    let past = c.loop-at-test.false in
    let count = rw c.plan-plan.ensures.same at c.event_count-at-end.ensures in
    all_counted plan settled live_done p c.loop-at.at _ (omega (arith, past, count)) c.loop-at.invariant.count
