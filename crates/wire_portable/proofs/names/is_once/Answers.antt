use Rattle.std.proofs.Common.{arith, length, map}
use Rattle.std.proofs.lemmas.Bool.{leb-true}
use Rattle.std.proofs.lemmas.List.{length-map}
use Rattle.wire_runs.specs.Plan.{event_of}
use Rattle.wire_scripts.specs.Planned.{plan_of}
use Rattle.wire_portable.proofs.NamesFound.{only_one}
use Rattle.wire_portable.proofs.names.is_once.Goals as goal

pub returns : goal.returns
returns c = λ t.
    let few = leb-true (length c.publishes.result.now) 1 t in
    let all = length-map c.publishes.result.now event_of in
    only_one (plan_of c.args.marked.now) c.args.name (event_of c.args.event) (map event_of c.publishes.result.now) (rw c.plan.ensures at c.publishes.ensures) (omega (arith, few, all)) c.requires
