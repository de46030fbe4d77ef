use Rattle.std.proofs.Common.{◌≡◌, ◌∙◌, ap, sym, length, arith}
use Rattle.std.proofs.lemmas.List.{length-map}
use Rattle.wire_runs.specs.Plan.{event_count}
use Rattle.wire_scripts.specs.Planned.{plan_of}
use Rattle.wire_plan.specs.Kinds.{kind_of}
use Rattle.wire_plan.proofs.Planning.{count_fits}
use Rattle.wire_plan.proofs.events.Events.event_count.Goals as goal

pub overflow_cast-result : goal.overflow_cast-result
unfolding event_count
overflow_cast-result c =
    let counted : length c.events.result.now ≡ event_count (plan_of c.args.self.now) c.args.proc.number = sym (length-map c.events.result.now (kind_of c.args.self.now.sets))
    ∙ ap length c.events.ensures in
    let fits = rw c.self.view_is at (count_fits c.self.inside.scripts c.args.proc.number c.self.invariant.0.sound.counted.few_calls) in
    omega (arith, counted, fits)

pub returns : goal.returns
unfolding event_count
returns c = sym (length-map c.events.result.now (kind_of c.args.self.now.sets)) ∙ ap length c.events.ensures
