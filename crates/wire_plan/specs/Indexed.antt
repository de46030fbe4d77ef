-- What a plan keeps besides its events: for the contracts of private functions.
use Rattle.wire_scripts.specs.Scripts.{Scripts}
use Rattle.wire_scripts.specs.Planned.{plan_of}
use Rattle.wire_fence.specs.FenceTable.{FenceTable}
use Rattle.wire_plan.specs.Meetings.{AreArrivalLists}
use Rattle.wire_plan.specs.Keys.{AreKeysOf}
use Rattle.wire_plan.specs.Tables.{AreNameCallsOf}
use Rattle.wire_plan.specs.Bringing.{AreBringing}
use Rattle.wire_plan.specs.Gets.{AreGetLists}
use Rattle.wire_plan.specs.declared.index.Index.{Index}

-- the index is that of these scripts, whose fences these are
pub record IsIndexed (s : Scripts) (table : FenceTable) (index : Index) : Type 0 where
  pub meetings : AreArrivalLists s table index.meetings
  pub keys : AreKeysOf (plan_of s) index.keys
  pub names : AreNameCallsOf (plan_of s) index.names
  pub bringing : AreBringing (plan_of s) index.bringing
  pub gets : AreGetLists (plan_of s) index.gets
