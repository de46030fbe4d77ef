use Rattle.std.proofs.Common.{take}
use Rattle.wire_runs.specs.Plan.{Plan}
use Rattle.wire_anywhere.specs.Adding.{AddsPlacementFindings, IsOnAll}
use Rattle.wire_anywhere.proofs.finding_search.add_placeless.Given as goal

abbrev pub invariant-loop-number : goal.invariant-loop-number
invariant-loop-number l = (plan : Plan) → AddsPlacementFindings plan l.initial.found l.found (IsOnAll plan (take l.number l.list))
