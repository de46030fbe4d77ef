use Rattle.wire_scripts.specs.Planned.{plan_of}
use Rattle.wire_core.proofs.running.Core.look_back.Goals as goal

pub invariant_of-self : goal.invariant_of-self
invariant_of-self c =
    let look = rw (← c.self.view_is) at c.look_on-look.ensures in record {
      course = c.self.invariant.course;
      room = c.self.invariant.room;
      shared = c.self.invariant.shared;
      noted = c.self.invariant.noted;
      looked = c.put.ensures (plan_of c.self.inside.plan.now) c.self.invariant.looked look;
      keeping_is = c.self.invariant.keeping_is;
    }
