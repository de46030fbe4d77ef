use Rattle.std.proofs.Common.{map, IfOk, ◌≡◌, subst}
use Rattle.serde_json.specs.View.{view}
use Rattle.wire_json.specs.Trees.{report_data}
use Rattle.wire_json.proofs.forms.report_tree.Goals as goal

pub returns : goal.returns
returns c = subst (λ n. IfOk c.finish.result (λ tree. view tree ≡ report_data (map view c.args.ranks.items) n)) c.from.ensures
    (c.finish.ensures _ (c.put_number.ensures _ (c.put_list.ensures _ c.new.ensures)))
