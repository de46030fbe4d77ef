use Rattle.std.proofs.Common.{ℕ, ◌<◌, ◌≤◌, length}
use Rattle.wire_scripts.specs.Scripts.{text_at}
use Rattle.wire_report.proofs.streaming.longest_text.Given as goal

abbrev pub invariant-loop-number : goal.invariant-loop-number
invariant-loop-number l = (k : ℕ) → k < l.number → length (text_at l.texts k) ≤ l.longest
