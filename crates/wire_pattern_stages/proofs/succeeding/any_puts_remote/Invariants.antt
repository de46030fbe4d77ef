use Rattle.std.proofs.Common.{◌≡◌, drop}
use Rattle.std.specs.List.{list_any}
use Rattle.wire_pattern_stages.specs.Succeeding.{puts_remote}
use Rattle.wire_pattern_stages.proofs.succeeding.any_puts_remote.Given as goal

abbrev pub invariant-loop-call : goal.invariant-loop-call
invariant-loop-call l = list_any puts_remote (drop l.call-index l.calls) ≡ list_any puts_remote l.calls
