use Rattle.wire_scripts.specs.Planned.{plan_of}
use Rattle.wire_anywhere.proofs.Listed.{one_process}
use Rattle.wire_anywhere.proofs.differing_search.all_differing.Goals as goal

pub loop-number-preserved : goal.loop-number-preserved
loop-number-preserved c =
    one_process (plan_of c.args.marked.now) c.loop-number.number c.loop-number.found.items c.add_process.new.found.items c.loop-number.invariant c.in_ok-add_process.ensures
