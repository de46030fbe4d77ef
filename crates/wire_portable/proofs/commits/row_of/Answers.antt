use Rattle.std.proofs.Common.{◌∙◌, ◌+◌, ◌≤◌, map, ap, sym, subst, arith}
use Rattle.std.proofs.lemmas.Bool.{true≢false}
use Rattle.std.proofs.lemmas.List.{map_push}
use Rattle.wire_runs.specs.Plan.{event_of, event_count}
use Rattle.wire_scripts.specs.Planned.{plan_of}
use Rattle.wire_portable.proofs.Gathered.{AreCommitsTo, no_commits, commit_added, no_commit_added, all_commits}
use Rattle.wire_portable.proofs.commits.row_of.Goals as goal
use Rattle.wire_portable.proofs.commits.row_of.Goals.{then-is_live_commit+in_ok-push, else-is_live_commit}

pub loop-at-init : goal.loop-at-init
loop-at-init c = subst (λ xs. AreCommitsTo (plan_of c.args.marked.now) c.args.proc.number 0 (map event_of xs)) (sym c.new-row.ensures.items) (no_commits (plan_of c.args.marked.now) c.args.proc.number)

pub loop-at-preserved : goal.loop-at-preserved
loop-at-preserved c =
    let plan = plan_of c.args.marked.now in
    let p = c.args.proc.number in
    let n = c.loop-at.at in
    elim c.if-is_live_commit.branch [
      | then-is_live_commit+in_ok-push w ↦
          rw w.row-is (subst (AreCommitsTo plan p (n + 1)) (sym (ap (map event_of) w.in_ok-push.ensures.items ∙ map_push event_of c.loop-at.row.items _))
          (commit_added plan p n (n + 1) (map event_of c.loop-at.row.items) (omega arith) (c.is_live_commit.ensures.0 w.if-is_live_commit.true) c.loop-at.invariant))
      | else-is_live_commit w ↦
          rw w.row-is (no_commit_added plan p n (n + 1) (map event_of c.loop-at.row.items) (omega arith)
          (λ h. true≢false (sym (c.is_live_commit.ensures.1 h) ∙ w.if-is_live_commit.false)) c.loop-at.invariant)
    ]

pub returns : goal.returns
returns c =
    let over = c.loop-at-test.false in
    let count = rw c.plan.ensures at c.event_count-at-end.ensures in
    let last : event_count (plan_of c.args.marked.now) c.args.proc.number ≤ c.loop-at.at = omega (arith, over, count) in
    all_commits (plan_of c.args.marked.now) c.args.proc.number c.loop-at.at (map event_of c.loop-at.row.items) last c.loop-at.invariant
