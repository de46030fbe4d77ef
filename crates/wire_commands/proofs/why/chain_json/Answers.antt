use Rattle.wire_commands.proofs.why.chain_json.Goals as goal

pub returns : goal.returns
returns c =
    rw (c.as_bytes.ensures.value, c.which_word.ensures) at
    (c.finish.ensures _ (c.put-4.ensures _ (c.put_list.ensures _ _ (c.put-3.ensures _ (c.put-2.ensures _ (c.put.ensures _ c.new.ensures))) c.step_texts.ensures)))
