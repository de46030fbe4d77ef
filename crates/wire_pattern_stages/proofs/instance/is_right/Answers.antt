use Rattle.wire_runs.specs.Plan.{event_of}
use Rattle.wire_scripts.specs.Planned.{plan_of}
use Rattle.wire_pattern_stages.specs.Tables.{view_key}
use Rattle.wire_pattern_stages.proofs.Sources.{each_goes}
use Rattle.wire_pattern_stages.proofs.instance.is_right.Goals as goal

pub returns : goal.returns
returns c = λ t. record {
  one = c.is_for_one.ensures.0 c.if-not-is_for_one.false;
  along = c.is_along.ensures c.if-not-is_along.false;
  across = each_goes (view_key c.args.view.now) (plan_of c.args.view.now.plan.now) (event_of c.args.y) c.sources-sources.result.previous c.sources-sources.result.awaited c.sources-sources.result.arrivals.now
      c.sources-sources.ensures.sources c.sources-sources.ensures.previous (c.one_goes.ensures c.if-not-one_goes.false) (c.all_go.ensures t);
}
