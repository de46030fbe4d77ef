use Rattle.std.proofs.Common.{◌≡◌, ◌++◌, ℕ, flat_map, drop}
use Rattle.std.specs.List.{range_with_len}
use Rattle.wire_pattern_waits.proofs.places.add_turns.Given as goal

abbrev pub invariant-loop-each : goal.invariant-loop-each
invariant-loop-each l =
    l.out.items ++ flat_map (λ (e : ℕ). range_with_len l.first l.count) (drop l._each-index l.turns)
    ≡ l.fn.out.items ++ flat_map (λ (e : ℕ). range_with_len l.first l.count) l.turns
