use Rattle.wire_json.proofs.forms.findings_tree.Goals as goal

pub returns : goal.returns
returns c = c.finish.ensures _ (c.put_list.ensures _ c.new.ensures)
