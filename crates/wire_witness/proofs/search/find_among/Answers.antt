use Rattle.wire_witness.specs.Runs.{steps_of}
use Rattle.wire_witness.proofs.search.find_among.Goals as goal

pub returns-in-None-clause-not_shown : goal.returns-in-None-clause-not_shown
returns-in-None-clause-not_shown c = record {
  held_first = steps_of c.in_ok-held.held.first;
  held_second = steps_of c.in_ok-held.held.second;
  first_is = c.in_ok-held.ensures.made.first;
  second_is = c.in_ok-held.ensures.made.second;
  none_differs = rw c.in-None.is at c.in_ok-witness.ensures.not_shown;
}
