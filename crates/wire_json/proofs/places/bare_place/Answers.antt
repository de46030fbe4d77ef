use Rattle.wire_json.proofs.places.bare_place.Goals as goal

pub returns : goal.returns
returns c = c.finish.ensures _ (c.put_text.ensures _ (c.put_number.ensures _ c.new.ensures))
