use Rattle.std.proofs.Common.{◌≡◌, ◌++◌, map, drop}
use Rattle.wire_instances.specs.Views.{turn_by}
use Rattle.wire_cutoff_laws.specs.Choices as spec
use Rattle.wire_cutoff.proofs.choices.optional_turns.Given as goal

abbrev pub invariant-loop-number : goal.invariant-loop-number
invariant-loop-number l =
    map turn_by l.turns.items ++ spec.callers_turns l.pattern l.roles l.number (drop l.number l.roles)
    ≡ spec.callers_turns l.pattern l.roles 0 l.roles
