use Rattle.std.proofs.Common.{ℕ, ◌<◌, ◌≤◌, length}
use Rattle.wire_words.specs.Words.{name_of}
use Rattle.wire_report.proofs.streaming.longest_process.Given as goal

abbrev pub invariant-loop-process : goal.invariant-loop-process
invariant-loop-process l = (p : ℕ) → p < l.process-index → length (name_of l.scripts p) ≤ l.longest
