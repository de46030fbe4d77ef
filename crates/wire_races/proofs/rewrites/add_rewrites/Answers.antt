use Rattle.std.proofs.Common.{◌≡◌, ◌∙◌, ◌+◌, arith}
use Rattle.wire_runs.specs.Plan.{process_count}
use Rattle.wire_scripts.specs.Planned.{plan_of}
use Rattle.wire_races.specs.FindingKinds.{IsOfRewrite}
use Rattle.wire_races.specs.Rewriting.{IsRewriteBy}
use Rattle.wire_races.proofs.Growing.{one_process, all_told, all_added}
use Rattle.wire_races.proofs.Later.{rewrite_within, rewrite_below, rewrite_told, rewrite_by}
use Rattle.wire_races.proofs.rewrites.add_rewrites.Goals as goal

pub loop-number-preserved : goal.loop-number-preserved
loop-number-preserved c =
    let plan = plan_of c.args.plan.now in
    one_process plan (IsRewriteBy plan) (rewrite_within plan) c.args.found.now c.loop-number.found c.add_process.new.found c.loop-number.number (c.loop-number.number + 1) (omega arith)
    c.loop-number.invariant c.in_ok-add_process.ensures

pub returns-clause-found : goal.returns-clause-found
returns-clause-found c = c.loop-number.invariant.found

pub returns-clause-all : goal.returns-clause-all
returns-clause-all c =
    let plan = plan_of c.args.plan.now in
    let last : c.loop-number.number ≡ process_count plan = (omega arith) ∙ c.process_count-number-end.ensures in
    all_added plan IsOfRewrite c.args.found.now c.loop-number.found
    (all_told plan (IsRewriteBy plan) (rewrite_below plan) IsOfRewrite (rewrite_told plan) (rewrite_by plan) c.args.found.now c.loop-number.found c.loop-number.number last c.loop-number.invariant)
