use Rattle.wire_commands.proofs.check.groups_json.Goals as goal

pub returns : goal.returns
returns c =
    let found = c.put_list.ensures _ _ (c.put.ensures _ c.new.ensures) c.finding_texts.ensures in
    c.finish.ensures _ (c.put-3.ensures _ (c.put_list-2.ensures _ _ (c.put-2.ensures _ found) c.group_texts.ensures))
