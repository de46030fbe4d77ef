use Rattle.wire_scripts.specs.Planned.{plan_of}
use Rattle.wire_races.specs.Adding.{AddsFindings, ToldBelow}
use Rattle.wire_races.specs.Rewriting.{IsRewriteBy}
use Rattle.wire_races.proofs.rewrites.add_rewrites.Given as goal

abbrev pub invariant-loop-number : goal.invariant-loop-number
invariant-loop-number l = AddsFindings (plan_of l.plan) l.initial.found l.found (ToldBelow (IsRewriteBy (plan_of l.plan)) l.number)
