use Rattle.std.proofs.Common.{◌≡◌, ◌≤◌, true, not, length, drop}
use Rattle.std.specs.Prelude.{◌==◌}
use Rattle.std.specs.List.{list_all}
use Rattle.wire_pattern_commands.proofs.ranks.cut_at_equals.Given as goal

abbrev pub invariant-seeking : goal.invariant-seeking
invariant-seeking l = (l.end ≤ length l.word) × (list_all (λ b. not (b == 61)) (drop l.end l.word) ≡ true)

abbrev pub decreases-seeking : goal.decreases-seeking
decreases-seeking l = l.end
