use Rattle.std.proofs.Common.{◌≡◌, map, drop}
use Rattle.wire_pattern.specs.Views.{line_by}
use Rattle.wire_cutoff_laws.specs.Choices as spec
use Rattle.wire_cutoff.proofs.choices.are_reads.Given as goal

abbrev pub invariant-loop-line : goal.invariant-loop-line
invariant-loop-line l = spec.are_reads (map line_by (drop l.line-index l.lines)) ≡ spec.are_reads (map line_by l.lines)
