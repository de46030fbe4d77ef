use Rattle.std.proofs.Common.{◌∙◌, ap, sym, Some}
use Rattle.std.proofs.lemmas.Option.{same_Some}
use Rattle.wire_scripts.specs.Planned.{plan_of}
use Rattle.wire_plan.specs.Kinds.{kind_of}
use Rattle.wire_anywhere.proofs.KeptGets.{get_added, nothing_added}
use Rattle.wire_plan.proofs.KeptGets.{no_get}
use Rattle.wire_anywhere.proofs.gets.GetTable.add_event.Goals as goal

pub returns-in_ok-add : goal.returns-in_ok-add
returns-in_ok-add c =
    get_added (plan_of c.args.plan.now) c.args.event.proc.number c.args.event.at c.in-Get.owner.number c.in-Get.key c.args.self.now c.add.new.self c.requires.keeps
    (c.kind.ensures ∙ ap (λ k. Some (kind_of c.args.plan.now.sets k)) c.in-Get.is) c.in_ok-add.ensures.here c.in_ok-add.ensures.others

pub returns-in_default : goal.returns-in_default
returns-in_default c =
    nothing_added (plan_of c.args.plan.now) c.args.event.proc.number c.args.event.at c.args.self.now
    (λ p key is. no_get c.args.plan.now.sets c.kind.result c.in_default.not-Get p key (same_Some _ _ (sym c.kind.ensures ∙ is)))
