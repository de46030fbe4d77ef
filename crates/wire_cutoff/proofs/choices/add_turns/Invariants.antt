use Rattle.std.proofs.Common.{◌≡◌, ◌++◌, map, drop}
use Rattle.wire_instances.specs.Views.{turn_by}
use Rattle.wire_cutoff_laws.specs.Choices as spec
use Rattle.wire_cutoff.proofs.choices.add_turns.Given as goal

abbrev pub invariant-loop-number : goal.invariant-loop-number
invariant-loop-number l =
    map turn_by l.turns.items ++ spec.turns_for l.round.caller l.round.step l.group l.number (drop l.number l.roles)
    ≡ map turn_by l.fn.turns.items ++ spec.turns_for l.round.caller l.round.step l.group 0 l.roles
