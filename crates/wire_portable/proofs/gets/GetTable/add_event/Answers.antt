use Rattle.std.proofs.Common.{◌∙◌, ap, sym, Some}
use Rattle.std.proofs.lemmas.Option.{same_Some}
use Rattle.wire_runs.specs.Plan.{event_of}
use Rattle.wire_scripts.specs.Planned.{plan_of}
use Rattle.wire_plan.specs.Kinds.{kind_of}
use Rattle.wire_plan.proofs.KeptGets.{no_get}
use Rattle.wire_portable.proofs.OpenGets.{nothing_added, own_get}
use Rattle.wire_portable.proofs.gets.GetTable.add_event.Goals as goal

pub add_get-requires-clause-is : goal.add_get-requires-clause-is
add_get-requires-clause-is c = (rw c.plan.ensures at c.kind.ensures) ∙ ap (λ k. Some (kind_of c.args.marked.now.sets k)) c.in-Get.is

pub returns-else-owner-event-clause-added : goal.returns-else-owner-event-clause-added
returns-else-owner-event-clause-added c =
    nothing_added c.args.self.now.together (plan_of c.args.marked.now) c.args.event.proc.number c.args.event.at c.args.self.now
    (λ p n h. own_get c.args.self.now.together (plan_of c.args.marked.now) c.in-Get.owner.number _ (event_of c.args.event) p n ((rw c.plan.ensures at c.kind.ensures) ∙ ap (λ k. Some (kind_of c.args.marked.now.sets k)) c.in-Get.is) c.if-owner-event.false h)

pub returns-in_default-clause-added : goal.returns-in_default-clause-added
returns-in_default-clause-added c =
    nothing_added c.args.self.now.together (plan_of c.args.marked.now) c.args.event.proc.number c.args.event.at c.args.self.now
    (λ p n h. no_get c.args.marked.now.sets c.kind.result c.in_default.not-Get p h.key (same_Some _ _ (sym (rw c.plan.ensures at c.kind.ensures) ∙ h.is)))
