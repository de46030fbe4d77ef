use Rattle.wire_commands.proofs.witnesses.placed_json.Goals as goal

pub returns : goal.returns
returns c =
    let counts = c.put_form.ensures _ _ (c.put.ensures _ c.new.ensures) (rw c.counts.ensures at c.counts_json.ensures) in
    let races = c.put_list.ensures _ _ (c.put-2.ensures _ counts) (rw c.as_slice.ensures.value at c.tried_texts.ensures) in
    c.finish.ensures _ (c.put-3.ensures _ races)
