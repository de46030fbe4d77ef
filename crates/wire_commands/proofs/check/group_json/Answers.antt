use Rattle.wire_commands.proofs.check.group_json.Goals as goal

pub returns : goal.returns
returns c = c.finish.ensures _ (c.put-3.ensures _ (c.put_number-2.ensures _ (c.put-2.ensures _ (c.put_number.ensures _ (c.put.ensures _ c.new.ensures)))))
