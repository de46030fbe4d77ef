use Rattle.wire_commands.proofs.check.finding_json.Goals as goal

pub returns : goal.returns
returns c = c.finish.ensures _ (c.put.ensures _ c.begin_finding.ensures)
