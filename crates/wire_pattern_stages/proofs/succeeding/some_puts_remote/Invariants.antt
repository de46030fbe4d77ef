use Rattle.std.proofs.Common.{◌≡◌, drop}
use Rattle.std.specs.List.{list_any}
use Rattle.wire_pattern_stages.specs.Succeeding.{process_puts_remote}
use Rattle.wire_pattern_stages.proofs.succeeding.some_puts_remote.Given as goal

abbrev pub invariant-loop-process : goal.invariant-loop-process
invariant-loop-process l = list_any process_puts_remote (drop l.process-index l.processes) ≡ list_any process_puts_remote l.processes
