use Rattle.std.proofs.Common.{◌∙◌, ap, Some, arith}
use Rattle.wire_runs.specs.Plan.{event_of}
use Rattle.wire_plan.specs.Kinds.{kind_of}
use Rattle.wire_portable.proofs.nows.has_got.Goals as goal

pub returns : goal.returns
returns c = λ t.
    let found = rw c.plan-plan.ensures at c.in-Some.ensures in
    let late = c.if-later-store.false in
    record {
      owner = c.in-Get.owner.number;
      key = c.in-Get.key;
      is = (rw c.plan-plan.ensures at c.kind.ensures) ∙ ap (λ k. Some (kind_of c.args.judge.now.sets k)) c.in-Get.is;
      commit = event_of c.in-Some.later;
      its = ap (λ q. q.number) found.0;
      stores = found.1;
      later = omega (arith, late);
      before = (rw c.marked-marked.ensures at c.before-chained.ensures).0 t;
    }
