use Rattle.std.proofs.Common.{◌∙◌, ap, sym, Some}
use Rattle.std.proofs.lemmas.Option.{same_Some}
use Rattle.std.proofs.lemmas.Bool.{leb-false}
use Rattle.wire_runs.specs.Plan.{event_of}
use Rattle.wire_scripts.specs.Planned.{plan_of}
use Rattle.wire_plan.specs.Kinds.{kind_of}
use Rattle.wire_plan.proofs.KeptGets.{no_get}
use Rattle.wire_portable.proofs.Sharing.{key_later, key_never}
use Rattle.wire_portable.proofs.mates.is_sooner.Goals as goal

pub returns-in-Some : goal.returns-in-Some
returns-in-Some c = λ late p key is its.
    let mine = (rw c.plan.ensures at c.kind.ensures) ∙ ap (λ k. Some (kind_of c.args.judge.now.sets k)) c.in-Get.is in
    let found = rw c.plan-2.ensures at c.in-Some.ensures in
    key_later (plan_of c.args.judge.now) (event_of c.args.mate) p key c.in-Get.owner.number c.in-Get.key c.args.lacking.at mine is
    (event_of c.in-Some.store) (ap (λ q. q.number) found.0) found.1 (leb-false c.in-Some.store.at c.args.lacking.at late)

pub returns-in-None : goal.returns-in-None
returns-in-None c = λ late p key is its.
    let mine = (rw c.plan.ensures at c.kind.ensures) ∙ ap (λ k. Some (kind_of c.args.judge.now.sets k)) c.in-Get.is in
    key_never (plan_of c.args.judge.now) (event_of c.args.mate) p key c.in-Get.owner.number c.in-Get.key c.args.lacking.at mine is
    (rw c.plan-2.ensures at c.in-None.ensures)

pub returns-in_default : goal.returns-in_default
returns-in_default c = λ late p key is its.
    absurd (no_get c.args.judge.now.sets c.kind.result c.in_default.not-Get p key (same_Some _ _ (sym (rw c.plan.ensures at c.kind.ensures) ∙ is)))
