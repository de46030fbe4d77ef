use Rattle.std.proofs.Common.{◌<◌, ◌∙◌, sym, refl, length}
use Rattle.std.proofs.lemmas.List.{length-map}
use Rattle.std.proofs.lemmas.Option.{slice_get_read}
use Rattle.wire_scripts.specs.Planned.{planned_process}
use Rattle.wire_plan.proofs.Planning.{node_planned}
use Rattle.wire_plan.proofs.events.Events.node_of.Goals as goal

pub returns : goal.returns
returns c =
    let found = rw (c.processes.ensures.processes, c.self.view_is, c.index.ensures) at c.index-processes-index.is in
    let within : c.args.proc.number < length c.args.self.now.processes = rw (← length-map c.args.self.now.processes (planned_process c.args.self.now)) c.requires in
    c.node.ensures ∙ sym (node_planned c.args.self.now c.args.proc.number c.index-processes-index.result
    (slice_get_read c.args.self.now.processes (length c.args.self.now.processes) c.args.proc.number c.index-processes-index.result refl within found))
