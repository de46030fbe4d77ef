use Rattle.std.proofs.Common.{◌+◌, arith}
use Rattle.wire_scripts.specs.Planned.{plan_of}
use Rattle.wire_anywhere.specs.Races.{IsShownBy}
use Rattle.wire_anywhere.proofs.Growing.{no_event, one_event}
use Rattle.wire_anywhere.proofs.key_races.add_process.Goals as goal

pub loop-at-init : goal.loop-at-init
loop-at-init c = let plan = plan_of c.args.marked.now in no_event plan (IsShownBy plan) c.args.found.now c.args.proc.number

pub loop-at-preserved : goal.loop-at-preserved
loop-at-preserved c =
    let plan = plan_of c.args.marked.now in
    one_event plan (IsShownBy plan) c.args.found.now c.loop-at.found c.add_event.new.found c.args.proc.number c.loop-at.at (c.loop-at.at + 1) (omega arith) c.loop-at.invariant
    c.in_ok-add_event.ensures
