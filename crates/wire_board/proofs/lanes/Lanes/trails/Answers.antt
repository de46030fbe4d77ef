use Rattle.std.proofs.Common.{◌≡◌, ap, subst, vec_len}
use Rattle.wire_scripts.specs.Planned.{plan_of}
use Rattle.wire_board.specs.Lanes.{LanesAre, AreUnlocked}
use Rattle.wire_board.proofs.Told.{told_trails, told_of_lanes}
use Rattle.wire_board.proofs.lanes.Lanes.trails.Goals as goal

pub returns-clause-told : goal.returns-clause-told
returns-clause-told c =
    let count : vec_len c.self.inside.lanes ≡ c.args.self.count = ap (λ (l : LanesAre). l.count) c.self.view_is in
    record {
      lanes = c.in_ok-lanes.lanes.items;
      unlocked = subst (λ n. AreUnlocked n c.in_ok-lanes.lanes.items) count c.in_ok-lanes.ensures;
      tell = c.in_ok-told.ensures.trails;
    }

pub returns-clause-lanes : goal.returns-clause-lanes
returns-clause-lanes c =
    told_of_lanes (plan_of c.args.settled.now) (vec_len c.self.inside.lanes) c.in_ok-told.told
    (record { lanes = c.in_ok-lanes.lanes.items; unlocked = c.in_ok-lanes.ensures; tell = c.in_ok-told.ensures.trails })

pub returns-clause-trails : goal.returns-clause-trails
returns-clause-trails c =
    told_trails (plan_of c.args.settled.now) (vec_len c.self.inside.lanes) c.in_ok-told.told
    (record { lanes = c.in_ok-lanes.lanes.items; unlocked = c.in_ok-lanes.ensures; tell = c.in_ok-told.ensures.trails })
