use Rattle.std.proofs.Common.{rules, ◌++◌, ◌∷◌, []}
use Rattle.std.proofs.lemmas.List.Elements.{All-push, All-same}
use Rattle.wire_board.specs.Lanes.{IsTrail}
use Rattle.wire_board.proofs.lanes.unlock_lanes.Goals as goal

pub locks-preserved : goal.locks-preserved
locks-preserved c = record {
  count = search rules;
  room = search rules;
  keep = All-same IsTrail c.push_reserved.new.self.items (c.locks.lanes.items ++ c.into_inner-lane.result ∷ []) c.push_reserved.ensures.items
      (All-push IsTrail c.locks.lanes.items c.into_inner-lane.result c.locks.invariant.keep c.trail.ensures.trail);
}
