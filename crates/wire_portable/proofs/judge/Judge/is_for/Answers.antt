use Rattle.std.proofs.Common.{true, subst, ap, ◌∙◌}
use Rattle.wire_runs.specs.Plan.{admits}
use Rattle.wire_runs.specs.Puts.{scope_of}
use Rattle.wire_scripts.specs.Planned.{plan_of}
use Rattle.wire_plan.specs.Index.{IsFirstPut}
use Rattle.wire_portable.proofs.Keys.{never_put, put_for}
use Rattle.wire_portable.proofs.judge.Judge.is_for.Goals as goal

pub returns-in_default : goal.returns-in_default
returns-in_default c = λ once. never_put (plan_of c.args.self.now) c.args.asked.owner.number c.args.asked.key c.args.near true (rw c.self.view_is at c.in_default.ensures)

pub returns : goal.returns
returns c = λ once.
    let plan = plan_of c.args.self.now in
    let found = rw c.self.view_is at c.in-Some.ensures in
    let scope = rw c.self.view_is at c.scope_of.ensures in
    let its = ap (λ q. q.number) found.0 in
    put_for plan c.args.asked.owner.number c.args.asked.key c.in-Some.put.at c.args.near c.admits.result once
    (subst (λ q. IsFirstPut plan (record { proc = q; at = c.in-Some.put.at }) c.args.asked.key) its found.1)
    (c.admits.ensures ∙ ap (λ s. admits s c.args.near) scope ∙ ap (λ q. admits (scope_of plan q c.in-Some.put.at) c.args.near) its)
