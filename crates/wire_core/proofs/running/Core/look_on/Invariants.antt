use Rattle.std.proofs.Common.{◌≡◌}
use Rattle.wire_core.specs.Course.{plan_in}
use Rattle.wire_core.specs.Looks.{IsLook}
use Rattle.wire_core.proofs.running.Core.look_on.Given as goal

abbrev pub invariant-loop-at : goal.invariant-loop-at
invariant-loop-at l = record {
  is : IsLook (plan_in l.self) l.look;
  owner : l.look.owner ≡ l.owner;
  node : l.look.node ≡ l.node;
  seen : l.look.seen ≡ l.at;
}
