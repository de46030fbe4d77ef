use Rattle.wire_json.proofs.witnesses.races_tree.Goals as goal

pub returns : goal.returns
returns c = c.finish.ensures _ (c.put_list.ensures _ (c.put.ensures _ c.new.ensures))
