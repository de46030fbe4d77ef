use Rattle.std.proofs.Common.{◌≡◌}
use Rattle.wire_scripts.specs.Planned.{plan_of}
use Rattle.wire_portable.specs.Gets.{AreGetsTo, AreFirst}
use Rattle.wire_portable.proofs.gets.GetTable.add_all.Given as goal

abbrev pub invariant-loop-number : goal.invariant-loop-number
invariant-loop-number l =
    (AreGetsTo l.fn.self.together (plan_of l.marked) 0 0 l.fn.self → AreGetsTo l.fn.self.together (plan_of l.marked) l.number 0 l.self) × (l.self.together ≡ l.fn.self.together)
    × (AreFirst (plan_of l.marked) l.fn.self.phases.now l.fn.self → AreFirst (plan_of l.marked) l.fn.self.phases.now l.self)
    × (l.self.phases ≡ l.fn.self.phases)
