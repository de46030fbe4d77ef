use Rattle.std.proofs.Common.{◌≡◌, drop}
use Rattle.std.specs.List.{list_any}
use Rattle.wire_portable.specs.Listed.{is_spelling}
use Rattle.wire_portable.proofs.listed.any_spelling.Given as goal

abbrev pub invariant-loop-line : goal.invariant-loop-line
invariant-loop-line l = list_any is_spelling (drop l.line-index l.lines) ≡ list_any is_spelling l.lines
