use Rattle.std.proofs.Common.{sym, subst}
use Rattle.wire_scripts.specs.Planned.{plan_of}
use Rattle.wire_portable.specs.declared.gets.GetTable.{GetTable}
use Rattle.wire_portable.specs.Gets.{AreFirst}
use Rattle.wire_portable.specs.Phases.{ArePhases}
use Rattle.wire_portable.proofs.OpenGets.{none_added, none_first, empty_under}
use Rattle.wire_portable.proofs.gets.GetTable.of.Goals as goal

pub returns : goal.returns
returns c =
    let plan = plan_of c.args.marked.now in
    let kept = c.in_ok-add_all.ensures.phases in
    let empty : GetTable = record { lists = c.new.result; firsts = c.new-2.result; lasts = c.empty.result; phases = c.add_all.new.self.phases; together = c.args.together } in record {
      where_it_is = c.in_ok-add_all.ensures.kept;
      lists = c.in_ok-add_all.ensures.added (none_added c.args.together plan empty (empty_under empty c.new.ensures.empty));
      phases = subst (λ phases. ArePhases plan phases.now) (sym kept) c.requires;
      firsts = subst (λ phases. AreFirst plan phases.now c.add_all.new.self) (sym kept) (c.in_ok-add_all.ensures.firsts (none_first plan _ empty (empty_under empty c.new.ensures.empty)));
    }
