use Rattle.std.proofs.Common.{◌≡◌, ◌++◌, map, drop}
use Rattle.wire_instances.specs.Views.{turn_by, choice_by}
use Rattle.wire_cutoff_laws.specs.Choices.{chosen_by}
use Rattle.wire_cutoff.proofs.cutoff.choices_of.Given as goal

abbrev pub invariant-loop-number : goal.invariant-loop-number
invariant-loop-number l =
    map choice_by l.chosen.items ++ chosen_by (map turn_by (drop l.number l.turns)) (drop l.number l.bits) ≡ chosen_by (map turn_by l.turns) l.bits
