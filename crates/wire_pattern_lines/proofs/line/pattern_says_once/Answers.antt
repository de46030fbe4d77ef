use Rattle.wire_pattern_lines.proofs.SaysOnce.{says_once}
use Rattle.wire_pattern_lines.proofs.line.pattern_says_once.Goals as goal

pub returns : goal.returns
returns c = says_once
