use Rattle.wire_clocks.proofs.notes.+is_low.Given as goal

abbrev pub decreases-is_low : goal.decreases-is_low
decreases-is_low l = l.left
