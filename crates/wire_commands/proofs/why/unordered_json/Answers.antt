use Rattle.wire_commands.proofs.why.unordered_json.Goals as goal

pub returns : goal.returns
returns c = c.finish.ensures _ (c.put-2.ensures _ (c.put_list.ensures _ _ (c.put.ensures _ c.new.ensures) c.place_texts.ensures))
