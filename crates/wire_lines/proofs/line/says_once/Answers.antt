use Rattle.wire_lines.proofs.SaysOnce.{says_once}
use Rattle.wire_lines.proofs.line.says_once.Goals as goal

pub returns : goal.returns
returns c = says_once
