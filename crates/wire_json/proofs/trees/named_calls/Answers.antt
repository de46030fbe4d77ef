use Rattle.wire_json.proofs.trees.named_calls.Goals as goal

pub returns : goal.returns
returns c = c.finish.ensures _ (c.put_string.ensures _ (c.put_list.ensures _ c.new.ensures))
