use Rattle.wire_commands.proofs.witnesses.tried_json.Goals as goal

pub returns : goal.returns
returns c = c.finish.ensures _ (c.put-2.ensures _ (c.put_form.ensures _ _ (c.put.ensures _ c.begin_finding.ensures) c.shown_json.ensures))
