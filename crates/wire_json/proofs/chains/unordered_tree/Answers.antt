use Rattle.wire_json.proofs.chains.unordered_tree.Goals as goal

pub returns : goal.returns
returns c = c.finish.ensures _ (c.put_list.ensures _ (c.put_null.ensures _ c.new.ensures))
