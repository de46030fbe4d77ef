use Rattle.wire_json.proofs.witnesses.valued_run.Goals as goal

pub returns : goal.returns
returns c = c.finish.ensures _ (c.put_text-2.ensures _ (c.put_text.ensures _ (c.put_list.ensures _ c.new.ensures)))
