use Rattle.std.proofs.Common.{◌≡◌, ◌++◌, map, drop}
use Rattle.wire_pattern.specs.Views.{role_by}
use Rattle.wire_pattern_commands.specs.FirstWait.{sizes_words}
use Rattle.wire_pattern_commands.proofs.explained.push_sizes.Given as goal

abbrev pub invariant-loop-number : goal.invariant-loop-number
invariant-loop-number l =
    l.out.items ++ sizes_words (map role_by (drop l.number l.roles)) (drop l.number l.sizes) ≡ l.fn.out.items ++ sizes_words (map role_by l.roles) l.sizes
