use Rattle.wire_commands.specs.CallsJson.{finding_members}
use Rattle.wire_commands.proofs.calls_json.begin_finding.Goals as goal

pub returns : goal.returns
unfolding finding_members
returns c =
    let lower = c.put_form.ensures _ _ (c.put.ensures _ c.new.ensures) c.call_json.ensures in
    let higher = c.put_form-2.ensures _ _ (c.put-2.ensures _ lower) c.call_json-2.ensures in
    rw c.pair_of-pair.ensures at (c.put_quoted.ensures _ _ (c.put-3.ensures _ higher) c.words_of.ensures)
