use Rattle.std.proofs.Common.{◌≤◌, ◌+◌, refl, ap, sym, subst, ◌∙◌, arith, length}
use Rattle.wire_scripts.specs.Scripts.{set_at}
use Rattle.wire_portable.specs.Words.{is_one_job}
use Rattle.wire_portable.proofs.PlainFences.{TellsTo, tells_more, tells_all}
use Rattle.wire_portable.proofs.fences.SetTable.of_sets.Goals as goal

pub loop-set-preserved : goal.loop-set-preserved
loop-set-preserved c =
    let s = c.args.scripts.now in
    let n = c.loop-set.set in
    subst (TellsTo s (n + 1)) (sym c.in_ok-push.ensures.items)
    (tells_more s n (n + 1) c.loop-set.one_job.items c.is_one_job.result refl
    (c.is_one_job.ensures ∙ ap (is_one_job s) (c.members.ensures ∙ ap (λ sets. set_at sets n) c.sets-in-loop-set.ensures)) c.loop-set.invariant)

pub returns : goal.returns
returns c =
    let over = c.loop-set-test.false in
    let count = rw c.sets.ensures at c.len-set-end.ensures in
    let le : length c.args.scripts.now.sets ≤ c.loop-set.set = omega (arith, over, count) in
    tells_all c.args.scripts.now c.loop-set.set c.loop-set.one_job.items le c.loop-set.invariant
