use Rattle.std.proofs.Common.{◌∙◌, ap}
use Rattle.wire_runs.specs.Plan.{event_of}
use Rattle.wire_runs.proofs.Basics.{process_within}
use Rattle.wire_scripts.specs.Planned.{plan_of}
use Rattle.wire_portable.specs.Gets.{place_in, first_under}
use Rattle.wire_portable.proofs.OpenGets.{unread_beside}
use Rattle.wire_portable.proofs.gets.GetTable.first_beside.Goals as goal

pub place_of-place-requires : goal.place_of-place-requires
place_of-place-requires c = process_within (plan_of c.args.marked.now) c.args.get.proc.number c.args.get.at _ c.requires.is

pub returns : goal.returns
returns c =
    let table = c.args.self.now in
    let plan = plan_of c.args.marked.now in
    let p = c.args.asked.owner.number in
    unread_beside plan p (place_in table.together plan c.args.get.proc.number) c.first.result c.args.asked.key (event_of c.args.get) table table.together c.requires.table c.requires.is c.requires.asked
    (c.first.ensures ∙ ap (λ n. first_under table (p, n, c.phase-phase.result)) c.place_of-place.ensures ∙ ap (λ f. first_under table (p, place_in table.together plan c.args.get.proc.number, f)) c.phase-phase.ensures)
