use Rattle.std.proofs.Common.{◌∙◌, ap, refl, sym, subst}
use Rattle.std.proofs.lemmas.Bool.{true≢false}
use Rattle.wire_runs.specs.Plan.{event_of}
use Rattle.wire_runs.specs.Puts.{scope_of}
use Rattle.wire_scripts.specs.Planned.{plan_of}
use Rattle.wire_plan.specs.Index.{IsFirstPut}
use Rattle.wire_plan.proofs.KeyFacts.{never_put_stored}
use Rattle.wire_anywhere.specs.Differing.{IsDiffering}
use Rattle.wire_fates.proofs.KeyFates.{once}
use Rattle.wire_anywhere.proofs.Coming.{done_live}
use Rattle.wire_anywhere.proofs.PlacedReplies.{settled_here, never_stored, now_alike, now_differs_sure, now_differs_unsure, stores_here, before_here}
use Rattle.wire_anywhere.proofs.replies.told_committed.Goals as goal

pub returns-in_default : goal.returns-in_default
returns-in_default c =
    let plan = plan_of c.args.marked.now in
    let committed = c.requires.committed in
    absurd (never_stored plan c.args.asked.owner.number c.args.asked.key committed.0 committed.1.same committed.1.stores
    (λ n. never_put_stored plan c.args.asked.owner.number c.args.asked.key n (rw c.plan-plan.ensures at c.in_default.ensures)))

pub has_surely-requires-clause-get : goal.has_surely-requires-clause-get
has_surely-requires-clause-get c =
    let plan = plan_of c.args.marked.now in
    let found = rw c.plan-plan.ensures at c.in-Some.ensures in
    let first = subst (λ q. IsFirstPut plan (record { proc = q.number; at = c.in-Some.put.at }) c.args.asked.key) found.0 found.1 in
    record {
      is = c.requires.get;
      other = c.requires.another;
      once = once plan (settled_here plan c.requires.settled) (record { proc = c.args.asked.owner.number; at = c.in-Some.put.at }) c.args.asked.key first;
      get_live = done_live plan (settled_here plan c.requires.settled) (event_of c.args.asked.get_now) c.requires.answered;
    }

pub returns-then-not-has_surely : goal.returns-then-not-has_surely
returns-then-not-has_surely c =
    let plan = plan_of c.args.marked.now in
    let x = event_of c.args.asked.get_now in
    let p = c.args.asked.owner.number in
    let key = c.args.asked.key in
    let found = rw c.plan-plan.ensures at c.in-Some.ensures in
    let first = subst (λ q. IsFirstPut plan (record { proc = q.number; at = c.in-Some.put.at }) key) found.0 found.1 in
    let scope_is = (rw c.plan-plan.ensures at c.scope_of-scope.ensures) ∙ ap (λ q. scope_of plan q.number c.in-Some.put.at) found.0 in
    let committed = c.requires.committed in
    subst (IsDiffering plan x) (sym (rw c.plan-plan.ensures at c.differing_now.ensures))
    (now_differs_unsure plan c.requires.settled x c.requires.answered p key c.in-Some.put.at c.requires.another first c.scope_of-scope.result scope_is c.requires.get committed.0.at
    (stores_here plan p key committed.0 committed.1.same committed.1.stores) (before_here plan p x committed.0 committed.1.same committed.1.before) _ c.served-near.result refl
    (λ s. true≢false (sym (c.if-not-has_surely.ensures.1 s))) c.served-near.ensures)

pub returns-then-is_global : goal.returns-then-is_global
returns-then-is_global c =
    let plan = plan_of c.args.marked.now in
    let x = event_of c.args.asked.get_now in
    let p = c.args.asked.owner.number in
    let key = c.args.asked.key in
    let found = rw c.plan-plan.ensures at c.in-Some.ensures in
    let first = subst (λ q. IsFirstPut plan (record { proc = q.number; at = c.in-Some.put.at }) key) found.0 found.1 in
    let scope_is = (rw c.plan-plan.ensures at c.scope_of-scope.ensures) ∙ ap (λ q. scope_of plan q.number c.in-Some.put.at) found.0 in
    let committed = c.requires.committed in
    now_alike plan c.requires.settled x c.requires.answered p key c.in-Some.put.at c.requires.another first c.scope_of-scope.result scope_is c.requires.get committed.0.at
    (stores_here plan p key committed.0 committed.1.same committed.1.stores) (before_here plan p x committed.0 committed.1.same committed.1.before)
    (c.if-is_global.ensures.0 refl) (c.has_surely.ensures.0 c.if-not-has_surely.false)

pub returns : goal.returns
returns c =
    let plan = plan_of c.args.marked.now in
    let x = event_of c.args.asked.get_now in
    let p = c.args.asked.owner.number in
    let key = c.args.asked.key in
    let found = rw c.plan-plan.ensures at c.in-Some.ensures in
    let first = subst (λ q. IsFirstPut plan (record { proc = q.number; at = c.in-Some.put.at }) key) found.0 found.1 in
    let scope_is = (rw c.plan-plan.ensures at c.scope_of-scope.ensures) ∙ ap (λ q. scope_of plan q.number c.in-Some.put.at) found.0 in
    let committed = c.requires.committed in
    subst (IsDiffering plan x) (sym (rw c.plan-plan.ensures at c.differing_now-2.ensures))
    (now_differs_sure plan c.requires.settled x c.requires.answered p key c.in-Some.put.at c.requires.another first c.scope_of-scope.result scope_is c.requires.get committed.0.at
    (stores_here plan p key committed.0 committed.1.same committed.1.stores) (before_here plan p x committed.0 committed.1.same committed.1.before) _ c.served-near.result refl
    (λ g. true≢false (sym (c.if-is_global.ensures.1 g))) (c.has_surely.ensures.0 c.if-not-has_surely.false) c.served-near.ensures)
