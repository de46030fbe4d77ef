use Rattle.std.proofs.Common.{◌∙◌}
use Rattle.wire_witness.proofs.all.search_found.Goals as goal

pub returns-clause-ok : goal.returns-clause-ok
returns-clause-ok c = record {
  found = c.args.found.now;
  those = c.requires;
  first = c.in_ok-tried.ensures.races ∙ c.as_slice.ensures.value ∙ c.in_ok-races.ensures;
  shown = c.in_ok-tried.ensures.shown;
  counted = c.count_races-count.ensures;
}
