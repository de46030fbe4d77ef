use Rattle.wire_commands.proofs.witness.placed_json.Goals as goal

pub returns : goal.returns
returns c =
    let first = c.put_form.ensures _ _ (c.put.ensures _ c.new.ensures) (rw c.as_slice.ensures.value at c.run_json.ensures) in
    let other = c.put_form-2.ensures _ _ (c.put-2.ensures _ first) c.call_json.ensures in
    let second = c.put_form-3.ensures _ _ (c.put-3.ensures _ other) (rw c.as_slice-2.ensures.value at c.run_json-2.ensures) in
    let shown = c.put_form-4.ensures _ _ (c.put-4.ensures _ second) c.call_json-2.ensures in
    c.finish.ensures _ (c.put-5.ensures _ shown)
