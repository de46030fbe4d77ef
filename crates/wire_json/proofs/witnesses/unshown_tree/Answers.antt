use Rattle.wire_json.proofs.witnesses.unshown_tree.Goals as goal

pub returns : goal.returns
returns c = c.finish.ensures _ (c.put_null.ensures _ (c.put_flag.ensures _ c.new.ensures))
