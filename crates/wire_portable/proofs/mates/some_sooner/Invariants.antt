use Rattle.std.proofs.Common.{◌≡◌, false, map}
use Rattle.wire_runs.specs.Plan.{event_of}
use Rattle.wire_scripts.specs.Planned.{plan_of}
use Rattle.wire_portable.specs.declared.libraries.Library.{Library}
use Rattle.wire_portable.specs.Libraries.{family_of, has, only_v4}
use Rattle.wire_portable.proofs.Sharing.{AreFineBelow}
use Rattle.wire_portable.proofs.mates.some_sooner.Given as goal

abbrev pub invariant-loop-at : goal.invariant-loop-at
invariant-loop-at l = (library : Library) → has only_v4 library ≡ false →
    AreFineBelow (plan_of l.judge) l.asked.owner.number l.asked.key (event_of l.get) (family_of library) (map event_of l.gets) l.at
