use Rattle.wire_pattern_commands.proofs.Cut.{no_number}
use Rattle.wire_pattern_commands.proofs.ranks.read_part.Goals as goal

pub returns-in_default-number_of-clause-none : goal.returns-in_default-number_of-clause-none
returns-in_default-number_of-clause-none c =
    no_number c.args.part.now c.in-Some.name.now c.in-Some.number.now c.in-Some.ensures.found c.in-Some.ensures.last c.in_default-number_of.ensures.none
