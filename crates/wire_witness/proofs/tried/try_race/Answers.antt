use Rattle.wire_witness.proofs.Shown.{shown_race}
use Rattle.wire_witness.proofs.tried.try_race.Goals as goal

pub returns-in-Some-2-clause-shown : goal.returns-in-Some-2-clause-shown
returns-in-Some-2-clause-shown c =
    shown_race c.args.marked.now c.args.race (c.in-Some.x, c.in-Some.y) c.in-Some-2.witness c.in-Some.ensures (rw c.in-Some-2.is at c.in_ok-witness.ensures.shown)
