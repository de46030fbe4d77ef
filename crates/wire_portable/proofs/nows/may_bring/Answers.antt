use Rattle.std.proofs.Common.{◌∙◌, ap, sym, Some}
use Rattle.std.proofs.lemmas.Bool.{true≢false}
use Rattle.std.proofs.lemmas.Option.{same_Some}
use Rattle.wire_runs.specs.Plan.{event_of}
use Rattle.wire_runs.proofs.Basics.{event_within}
use Rattle.wire_scripts.specs.Planned.{plan_of}
use Rattle.wire_plan.specs.Kinds.{kind_of}
use Rattle.wire_plan.proofs.KeptGets.{no_get}
use Rattle.wire_portable.proofs.Sets.{not_false}
use Rattle.wire_portable.proofs.Carried.{dead_get, ended_get}
use Rattle.wire_portable.proofs.nows.may_bring.Goals as goal

pub kind-requires : goal.kind-requires
kind-requires c = rw c.plan-plan.ensures (event_within (plan_of c.args.judge.now) c.args.other.proc.number c.args.other.at _ c.requires.is.1)

pub returns-in_default : goal.returns-in_default
returns-in_default c = λ e m.
    no_get c.args.judge.now.sets c.kind.result c.in_default.not-Get c.args.asked.owner.number m.other_key (same_Some _ _ (sym (rw c.plan-plan.ensures at c.kind.ensures) ∙ m.is))

pub returns-then-not-live : goal.returns-then-not-live
returns-then-not-live c = λ e.
    dead_get (plan_of c.args.judge.now) c.args.asked.owner.number c.args.asked.key (event_of c.args.other)
    (λ l. true≢false (sym ((rw c.marked-marked.ensures at c.live.ensures).1 l) ∙ c.if-not-live.true))

pub returns : goal.returns
returns c = λ e.
    ended_get (plan_of c.args.judge.now) c.args.asked.owner.number c.args.asked.key (event_of c.args.other) _ c.in-Get.key (event_of c.args.store)
    ((rw c.plan-plan.ensures at c.kind.ensures) ∙ ap (λ k. Some (kind_of c.args.judge.now.sets k)) c.in-Get.is) c.if-key-asked.false
    (ap (λ q. q.number) c.requires.store.0) c.requires.store.1 ((rw c.marked-marked.ensures at c.before-chained.ensures).0 (not_false c.before-chained.result e))
