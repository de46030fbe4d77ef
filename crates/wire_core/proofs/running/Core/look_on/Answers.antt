use Rattle.std.proofs.Common.{◌∙◌, ap, map, ◌+◌, arith}
use Rattle.wire_scripts.specs.Planned.{plan_of}
use Rattle.wire_core.specs.Course.{plan_in}
use Rattle.wire_core.proofs.Bring.{done_within}
use Rattle.wire_core.proofs.running.Core.look_on.Goals as goal

pub may_bring-may-requires-clause-there : goal.may_bring-may-requires-clause-there
may_bring-may-requires-clause-there c =
    let done = rw (← c.self.view_is) at c.done-at-end.ensures in
    let within = done_within (plan_of c.self.inside.plan.now) (map (λ p. p.number) c.self.inside.history.items) c.args.owner.number c.self.invariant.course.legal in
    let below = c.loop-at-test.true in
    omega (arith, done, within, below)

pub loop-at-preserved : goal.loop-at-preserved
loop-at-preserved c =
    let so_far = c.loop-at.invariant in
    let next = c.with_next-look.ensures in
    record {
      is = next.look (plan_in c.args.self.now) so_far.is (λ no cut. rw (← c.self.view_is, so_far.owner, so_far.node, so_far.seen) (c.may_bring-may.ensures no cut));
      owner = next.owner ∙ so_far.owner;
      node = next.node ∙ so_far.node;
      seen = next.seen ∙ ap (λ n. n + 1) so_far.seen;
    }
