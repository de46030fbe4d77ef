use Rattle.std.proofs.Common.{◌≡◌, ℕ, map, flat_map, drop}
use Rattle.wire_pattern.specs.Views.{line_by}
use Rattle.wire_instances.specs.Search.{past}
use Rattle.wire_instances.proofs.numbers.pass_turns.Given as goal

abbrev pub invariant-loop-each : goal.invariant-loop-each
invariant-loop-each l =
    past l.search (flat_map (λ (e : ℕ). map (λ k. k.number) (map line_by l.lines)) (drop l._each-index l.turns))
    ≡ past l.fn.search (flat_map (λ (e : ℕ). map (λ k. k.number) (map line_by l.lines)) l.turns)
