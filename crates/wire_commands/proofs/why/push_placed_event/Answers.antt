use Rattle.std.proofs.Common.{◌∙◌, ◌++◌, ap, append_assoc}
use Rattle.std.proofs.lemmas.Result.{on_ok_weaker}
use Rattle.wire_runs.specs.Plan.{event_of}
use Rattle.wire_report.specs.Chain.{event_line}
use Rattle.wire_commands.proofs.why.push_placed_event.Goals as goal

pub returns : goal.returns
returns c =
    let line = event_line c.args.plan.now (event_of c.args.event) in
    let placed = rw c.call_of.ensures at c.in_ok-push_place.ensures in
    on_ok_weaker c.push_event.result (λ is. is ∙ ap (λ t. t ++ line) placed ∙ append_assoc c.args.out.now.items _ line) c.push_event.ensures
