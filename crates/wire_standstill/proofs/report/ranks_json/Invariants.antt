use Rattle.std.proofs.Common.{◌≡◌, ◌++◌, drop}
use Rattle.wire_types.specs.Texts.{lists_of}
use Rattle.wire_core.specs.Course.{state_of}
use Rattle.wire_standstill.specs.Report.{ranks_json}
use Rattle.wire_standstill.proofs.report.ranks_json.Given as goal

abbrev pub invariant-loop-number : goal.invariant-loop-number
invariant-loop-number l =
    lists_of l.ranks.items ++ ranks_json l.core.scripts (state_of l.core) (drop l.number-index l.numbers) ≡ ranks_json l.core.scripts (state_of l.core) l.numbers
