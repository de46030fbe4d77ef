use Rattle.wire_json.proofs.witnesses.named_race.Goals as goal

pub returns : goal.returns
returns c = c.finish.ensures _ (c.put.ensures _ (c.put_text.ensures _ c.new.ensures))
