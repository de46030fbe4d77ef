use Rattle.wire_clocks.proofs.notes.+gather_notes.Given as goal

abbrev pub decreases-gather_notes : goal.decreases-gather_notes
decreases-gather_notes l = l.left
