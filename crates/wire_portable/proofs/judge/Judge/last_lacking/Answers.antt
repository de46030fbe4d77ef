use Rattle.std.proofs.Common.{ap, subst}
use Rattle.wire_runs.specs.Plan.{event_of}
use Rattle.wire_scripts.specs.Planned.{plan_of}
use Rattle.wire_library_laws.specs.Portable.{Lacks}
use Rattle.wire_portable.specs.Commits.{IsCommitBelow, IsLastOf}
use Rattle.wire_portable.proofs.Keys.{last_same, below_lacks, lacks_below, all_lack, lacks_all}
use Rattle.wire_portable.proofs.judge.Judge.last_lacking.Goals as goal

pub returns-in-Some : goal.returns-in-Some
returns-in-Some c =
    let plan = plan_of c.args.self.now in
    let p = c.args.asked.owner.number in
    let key = c.args.asked.key in
    let found = rw c.self.view_is at c.in-Some.ensures in
    let rows = rw c.self.view_is at c.self.invariant.1 in
    let its = ap (λ q. q.number) found.0 in
    last_same (IsCommitBelow plan p c.in-Some.store.at) (Lacks plan p key) c.last_below.result (below_lacks plan p key (event_of c.in-Some.store) its found.1)
    (lacks_below plan p key (event_of c.in-Some.store) its found.1) (c.last_below.ensures plan rows)

pub returns-in-None : goal.returns-in-None
returns-in-None c =
    let plan = plan_of c.args.self.now in
    let p = c.args.asked.owner.number in
    let key = c.args.asked.key in
    let never = rw c.self.view_is at c.in-None.ensures in
    let rows = rw c.self.view_is at c.self.invariant.1 in
    let count = rw c.self.view_is at c.event_count.ensures in
    last_same _ (Lacks plan p key) c.last_below-in-None.result (all_lack plan p key never) (lacks_all plan p key never)
    (subst (λ n. IsLastOf (IsCommitBelow plan p n) c.last_below-in-None.result) count (c.last_below-in-None.ensures plan rows))
