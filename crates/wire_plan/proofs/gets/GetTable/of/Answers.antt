use Rattle.std.proofs.Common.{◌∙◌, ap, sym, subst}
use Rattle.wire_scripts.specs.Planned.{plan_of}
use Rattle.wire_plan.specs.declared.gets.GetTable.{GetTable}
use Rattle.wire_plan.specs.Gets.{AreGetLists}
use Rattle.wire_plan.proofs.KeptGets.{none_added, none_kept, empty_under}
use Rattle.wire_plan.proofs.gets.GetTable.of.Goals as goal
use Rattle.wire_plan.proofs.gets.GetTable.of.Goals.{then-keeps+in_ok-add_all, else-keeps}

pub returns : goal.returns
returns c =
    let empty : GetTable = record { lists = c.new.result } in
    let plan = plan_of c.args.events.now in
    elim c.if-keeps.branch [
      | then-keeps+in_ok-add_all w ↦ subst (AreGetLists plan) (sym w.table-is) (w.in_ok-add_all.ensures (none_added plan empty (empty_under empty c.new.ensures.empty)))
      | else-keeps w ↦ subst (AreGetLists plan) (sym w.table-is)
          (none_kept plan empty (sym (c.keeps.ensures ∙ ap (λ s. s.keeps) c.scripts.ensures.scripts) ∙ w.if-keeps.false) (empty_under empty c.new.ensures.empty))
    ]
