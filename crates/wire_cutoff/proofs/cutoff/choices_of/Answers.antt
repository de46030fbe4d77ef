use Rattle.std.proofs.Common.{map, drop}
use Rattle.wire_instances.specs.Views.{turn_by, choice_by}
use Rattle.wire_cutoff_laws.specs.Choices.{chosen_by}
use Rattle.wire_cutoff.proofs.Judged.{no_bits}
use Rattle.wire_cutoff.proofs.cutoff.choices_of.Goals as goal

pub returns-in-None : goal.returns-in-None
returns-in-None c =
    no_bits (map choice_by c.loop-number.chosen.items) (chosen_by (map turn_by c.args.turns.now) c.args.bits.now) (map turn_by (drop c.loop-number.number c.args.turns.now))
    c.loop-number.number c.args.bits.now c.in-None.ensures.lookup.3 c.loop-number.invariant
