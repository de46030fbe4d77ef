use Rattle.wire_json.proofs.witnesses.bare_run.Goals as goal

pub returns : goal.returns
returns c = c.finish.ensures _ (c.put_text.ensures _ (c.put_list.ensures _ c.new.ensures))
