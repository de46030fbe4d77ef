use Rattle.wire_json.proofs.witnesses.witness_tree.Goals as goal

pub returns : goal.returns
returns c = c.finish.ensures _ (c.put-3.ensures _ (c.put-2.ensures _ (c.put_flag.ensures _ (c.put.ensures _ c.new.ensures))))
