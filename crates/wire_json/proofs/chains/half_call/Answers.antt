use Rattle.wire_json.proofs.chains.half_call.Goals as goal

pub returns : goal.returns
returns c = c.finish.ensures _ (c.put_text-3.ensures _ (c.put_text-2.ensures _ (c.put_text.ensures _ (c.put_number.ensures _ c.new.ensures))))
