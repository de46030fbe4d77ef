use Rattle.wire_json.proofs.witnesses.counts_tree.Goals as goal

pub returns : goal.returns
returns c = c.finish.ensures _ (c.put_number-4.ensures _ (c.put_number-3.ensures _ (c.put_number-2.ensures _ (c.put_number.ensures _ c.new.ensures))))
