use Rattle.wire_cutoff.proofs.selections.+add_ways.Given as goal

abbrev pub decreases-add_ways : goal.decreases-add_ways
decreases-add_ways l = l.count
