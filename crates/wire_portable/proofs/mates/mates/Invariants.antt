use Rattle.std.proofs.Common.{◌≡◌, ◌-◌, false, length, map}
use Rattle.wire_runs.specs.Plan.{event_of}
use Rattle.wire_scripts.specs.Planned.{plan_of}
use Rattle.wire_portable.specs.declared.libraries.Library.{Library}
use Rattle.wire_portable.specs.Libraries.{family_of, has}
use Rattle.wire_portable.proofs.Sharing.{AreFineBelow}
use Rattle.wire_portable.proofs.mates.mates.Given as goal

abbrev pub invariant-processes : goal.invariant-processes
invariant-processes l = (library : Library) → has l.found library ≡ false →
    AreFineBelow (plan_of l.judge) l.asked.owner.number l.asked.key (event_of l.get) (family_of library) (map event_of l.gets) l.place

abbrev pub decreases-processes : goal.decreases-processes
decreases-processes l = length l.gets - l.place
