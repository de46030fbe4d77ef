use Rattle.wire_scripts.specs.Planned.{plan_of}
use Rattle.wire_anywhere.proofs.Listed.{none_told, one_told}
use Rattle.wire_anywhere.proofs.PlacedReplies.{settled_here}
use Rattle.wire_anywhere.proofs.differing_search.add_process.Goals.{in-Some+in_ok-push, in_default}
use Rattle.wire_anywhere.proofs.differing_search.add_process.Goals as goal

pub count_answered-at-end-requires-clause-settled : goal.count_answered-at-end-requires-clause-settled
count_answered-at-end-requires-clause-settled c = settled_here (plan_of c.args.marked.now) c.requires.settled

pub loop-at-preserved : goal.loop-at-preserved
loop-at-preserved c =
    let plan = plan_of c.args.marked.now in
    let p = c.args.proc.number in
    let old = c.args.found.now.items in
    let now = c.loop-at.found.items in
    elim c.match-told.branch [
      | in-Some+in_ok-push w ↦ rw w.found-is (one_told plan p c.loop-at.at old now w.push.new.self.items w.in-Some.differing w.in_ok-push.ensures.items c.loop-at.invariant w.in-Some.ensures)
      | in_default w ↦ rw w.found-is (none_told plan p c.loop-at.at old now c.loop-at.invariant w.in_default.ensures)
    ]
