use Rattle.std.proofs.Common.{◌≡◌, map, take}
use Rattle.wire_report.specs.Label.{label_of}
use Rattle.wire_anywhere_report.proofs.placed_groups.labels_of.Given as goal

-- the findings so far have these labels
abbrev pub invariant-loop-number : goal.invariant-loop-number
invariant-loop-number l = l.labels.items ≡ map (λ placed. label_of l.scripts placed.finding) (take l.number l.found)
