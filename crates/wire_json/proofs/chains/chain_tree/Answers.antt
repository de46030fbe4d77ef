use Rattle.wire_json.proofs.chains.chain_tree.Goals as goal

pub returns : goal.returns
returns c = c.finish.ensures _ (c.put_list.ensures _ (c.put_text.ensures _ c.new.ensures))
