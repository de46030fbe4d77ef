use Rattle.wire_clocks.proofs.rows.+put.Given as goal

abbrev pub decreases-put : goal.decreases-put
decreases-put l = l.level
