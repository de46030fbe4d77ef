use Rattle.wire_scripts.specs.Planned.{plan_of}
use Rattle.wire_races.specs.Adding.{AddsFindings, ToldIn}
use Rattle.wire_races.specs.Rewriting.{IsRewriteBy}
use Rattle.wire_races.proofs.rewrites.add_process.Given as goal

abbrev pub invariant-loop-at : goal.invariant-loop-at
invariant-loop-at l = AddsFindings (plan_of l.plan) l.initial.found l.found (ToldIn (IsRewriteBy (plan_of l.plan)) l.proc.number l.at)
