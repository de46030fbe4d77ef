use Rattle.wire_report.proofs.Chains.{text_once}
use Rattle.wire_report.proofs.chain_answer.one_chain_text.Goals as goal

pub returns : goal.returns
returns c = text_once c.one_shown.ensures
