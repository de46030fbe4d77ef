use Rattle.std.proofs.Common.{◌≡◌, ◌+◌, ◌-◌, ◌∙◌, length, ap, sym, subst, arith}
use Rattle.std.specs.Prelude.{replicate}
use Rattle.std.proofs.lemmas.List.{length-append, length-map, length-replicate, replicate_more}
use Rattle.wire_types.specs.declared.Proc.{Proc}
use Rattle.wire_runs.proofs.Lists.{one_longer}
use Rattle.wire_core.specs.Course.{Course, plan_in}
use Rattle.wire_core.specs.Following.{Follows}
use Rattle.wire_core.proofs.Steps.{step_history}
use Rattle.wire_core.proofs.Following.{follows_push, legal_still}
use Rattle.wire_locked.proofs.advance.advance_far.Goals as goal

pub steps-smaller : goal.steps-smaller
steps-smaller c =
    let now = c.steps.core in
    let p = c.args.proc.number in
    let legal = legal_still c.args.core.now now (replicate c.steps.invariant.0 p) c.steps.invariant.1 c.history-before.ensures.legal in
    let room = step_history (plan_in now) now.history p legal (sym c.ready.ensures ∙ c.steps-test.true) in
    let longer = one_longer now.history p in
    rw c.step.ensures (omega (arith, room, longer))

pub steps-preserved : goal.steps-preserved
steps-preserved c =
    let n = c.steps.invariant.0 in
    let p = c.args.proc.number in
    let follows = follows_push c.args.core.now c.steps.core c.step.new.self (replicate n p) p c.steps.invariant.1 (sym c.ready.ensures ∙ c.steps-test.true) c.step.ensures in
    (n + 1, subst (λ order. Follows c.args.core.now order c.step.new.self) (replicate_more n p) follows)

pub returns-clause-steps : goal.returns-clause-steps
returns-clause-steps c =
    let n = c.steps.invariant.0 in
    let p = c.args.proc.number in
    let old = c.args.core.now in
    let follows = c.steps.invariant.1 in
    let begun = ap length c.history-before.ensures.steps in
    let ended = ap length c.history.ensures.steps in
    let begun_count = length-map c.history-before.result.now (λ (q : Proc). q.number) in
    let ended_count = length-map c.history.result.now (λ (q : Proc). q.number) in
    let taken = ap (λ (course : Course). length course.history) follows.taken in
    let both = length-append old.history (replicate n p) in
    let added = length-replicate n p in
    let steps : n ≡ length c.history.result.now - length c.history-before.result.now = omega (arith, begun, ended, begun_count, ended_count, taken, both, added) in
    subst (λ k. Follows old (replicate k p) c.steps.core) steps follows
