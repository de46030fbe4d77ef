-- The text of an instance with any number of processes: what it reads as is settled where all instances are.
use Rattle.std.specs.Prelude.{Ok}
use Rattle.wire_scripts.specs.Scripts.{Scripts}
use Rattle.wire_scripts.specs.Planned.{plan_of}
use Rattle.wire_runs.specs.Races.{IsSettled}
use Rattle.wire_runs.specs.Laws.{HasOneEnd}
use Rattle.wire_reader.specs.declared.limits.Size.{Size}
use Rattle.wire_reader.specs.Reads.{Reads}
use Rattle.wire_pattern.specs.Pattern.{Pattern}
use Rattle.wire_pattern.specs.Lawful.{IsSoundPattern}
use Rattle.wire_pattern.specs.Instances.{Cast, IsCast, instance_text}
pub use Rattle.wire_pattern.specs.Instances.{HaveLeast}
use Rattle.wire_cutoff_laws.specs.Promised.{IsSettledForAll}

-- where nothing is found for any number of processes, nothing is found in what the text of an instance reads as, and
-- every interleaving of it that can't go on ends in one state
abbrev pub TextsSettled : Type 0
TextsSettled = (p : Pattern) (cast : Cast) (size : Size) (s : Scripts) → IsSoundPattern p → IsSettledForAll p → IsCast p cast
    → HaveLeast p.roles cast.sizes → Reads size (instance_text p cast) (Ok s) → IsSettled (plan_of s) × HasOneEnd (plan_of s)
