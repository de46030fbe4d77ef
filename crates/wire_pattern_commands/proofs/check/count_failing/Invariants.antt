use Rattle.std.proofs.Common.{◌≡◌, ◌+◌, ◌≤◌, not, drop}
use Rattle.std.specs.Prelude.{count_by}
use Rattle.wire_pattern_commands.specs.CheckPattern.{succeeds}
use Rattle.wire_pattern_commands.proofs.check.count_failing.Given as goal

abbrev pub invariant-loop-answers : goal.invariant-loop-answers
invariant-loop-answers l =
    (l.count + count_by (λ a. not (succeeds a)) (drop l.answers-index l.all) ≡ count_by (λ a. not (succeeds a)) l.all) × (l.count ≤ l.answers-index)
